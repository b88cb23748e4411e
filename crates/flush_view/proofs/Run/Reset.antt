-- The machine at reset: its registers, its view of memory and its cache.
use Rattle.std.proofs.Common.{◌≡◌, ℕ, ◌-◌, ◌/◌, Bool, true, false, refl, sym, ap, ◌∙◌}
use Rattle.std.specs.Prelude.{None, ◌==◌, replicate, slice_index, if◌then◌else◌}
use Rattle.std.proofs.Math.Path.{fun_ext}
use Rattle.std.proofs.lemmas.Bool.{true≢false}
use Rattle.bit_field.specs.declared.shapes.Shape.{Shape}
use Rattle.elf_load.specs.Image.{LoadedImage, in_ram, ram_byte}
use Rattle.wb_cache.specs.Contents.{empty, slots}
use Rattle.wb_cache.specs.Lookup.{holds, set_of, way_of}
use Rattle.wb_cache.proofs.Empty.{same_everywhere, slots-empty}
use Rattle.wb_cache.proofs.Find.{first_below-nothing}
use Rattle.cyc_machine.specs.Pipeline.{register}
use Rattle.cyc_machine.specs.State.{reset}
use Rattle.flush_view.specs.Coherence.{IsCoherent}
use Rattle.flush_view.specs.Views.{cached, overlaid, view}

pub registers-reset : register (replicate 31 0) ≡ (λ r. 0)
unfolding register
registers-reset = fun_ext (λ r. go r (r == 0))
  where
    go : (r : ℕ) (b : Bool) → (if b then 0 else slice_index (replicate 31 0) (r - 1)) ≡ 0
    go r true = refl
    go r false = same_everywhere 31 (r - 1) 0

holds-none : (shape : Shape) (line set way : ℕ) → holds shape line (slots (empty shape) set way) ≡ false
holds-none shape line set way = ap (holds shape line) (slots-empty shape set way)

way-none : (shape : Shape) (line : ℕ) → way_of shape (slots (empty shape)) line ≡ None
unfolding way_of
way-none shape line = first_below-nothing shape.ways _ (λ w l. holds-none shape line (set_of shape line) w)

cached-reset : (shape : Shape) (ram : ℕ → ℕ) (p : ℕ) → cached shape ram (slots (empty shape)) p ≡ ram p
unfolding cached
cached-reset shape ram p = rw (way-none shape (p / 16)) refl

pub view-reset : (image : LoadedImage) (shape : Shape) → view (reset image shape) ≡ ram_byte image image.ram
unfolding view reset overlaid ram_byte empty
view-reset image shape = fun_ext (λ p. go p (in_ram image p) refl)
  where
    go : (p : ℕ) (b : Bool) → in_ram image p ≡ b → view (reset image shape) p ≡ ram_byte image image.ram p
    go p true h = rw h (cached-reset shape (ram_byte image image.ram) p ∙ rw h refl)
    go p false h = rw h refl

pub coherent-reset : (image : LoadedImage) (shape : Shape) (out : ℕ → Bool) → IsCoherent out (reset image shape)
unfolding reset empty
coherent-reset image shape out = record {
  single = λ line o v w lv lw hv hw. absurd (true≢false (sym hv ∙ holds-none shape line (set_of shape line) v));
  clean = λ line o w p lw hw d e. absurd (true≢false (sym hw ∙ holds-none shape line (set_of shape line) w));
}
