-- A byte whose bits are needed is loaded by a later instruction, which accesses its line.
use Rattle.std.proofs.Common.{◌≡◌, ◌⊎◌, zero, suc, true, List, [], ◌∷◌, refl, sym, ◌∙◌, ap, subst, inl, inr}
use Rattle.std.specs.Prelude.{Some, slice_get}
use Rattle.std.proofs.Common.{ℕ, ◌+◌, ◌%◌, ◌<◌, ◌≤◌, None, Option, arith}
use Rattle.std.proofs.lemmas.Bool.Decides.{nat_tests}
use Rattle.std.specs.Option.{ForSome, option_or}
use Rattle.std.specs.Prelude.{option_map}
use Rattle.elf_load.specs.Image.{LoadedImage}
use Rattle.rv_isa.proofs.Accessed.{law}
use Rattle.rv_isa.proofs.Entries.{retired_well}
use Rattle.rv_isa.specs.Accesses.{line_of, next_line}
use Rattle.rv_isa.specs.Effects.{IsAccess, retired_at}
use Rattle.rv_isa.specs.Instruction.{State}
use Rattle.rv_isa.specs.declared.effect.Effect.{Effect}
use Rattle.rv_isa.specs.declared.effect.Retired.{Retired}
use Rattle.need_pass.specs.Links.{Link, has_byte, loads}
use Rattle.need_pass.specs.Needed.{Root, Needed}
use Rattle.need_pass.specs.ProgramBits.{ProgramBit, Register, Byte}

byte_root : (i : Retired) (p k : ℕ) → Root i (Byte p k) → ⊥
unfolding Root
byte_root i p k root = root

byte_link : (i : Retired) (p k : ℕ) (q : ProgramBit) → Link i (Byte p k) q → (loads i p ≡ true) ⊎ (q ≡ Byte p k)
unfolding Link
byte_link i p k (Register s j) link = inl link.1
byte_link i p k (Byte q j) (stored, e, f) = inr (ap (λ x. Byte x j) (sym e) ∙ ap (Byte p) (sym f))

pub needed_loaded : (entries : List Retired) (p k : ℕ) → Needed entries (Byte p k) → (j : ℕ) × (entry : Retired) × (slice_get entries j ≡ Some entry) × (loads entry p ≡ true)
unfolding Needed
needed_loaded [] p k n = absurd n
needed_loaded (i ∷ later) p k n =
    elim n.1 [
      | inl root ↦ absurd (byte_root i p k root)
      | inr (q, link, m) ↦
          elim (byte_link i p k q link) [
            | inl loaded ↦ (zero, i, refl, loaded)
            | inr same ↦ let (j, entry, found, loaded) = needed_loaded later p k (subst (Needed later) same m) in (suc j, entry, found, loaded)
          ]
    ]

-- ---- and that instruction accesses its line

access_line : (x size p : ℕ) → IsAccess x size → x ≤ p → p < x + size → line_of p ≡ line_of x
access_line x size p access l h =
    elim access.whole [
      | inl one ↦ omega (arith, access.aligned)
      | inr (inl two) ↦ let a : x % 2 ≡ 0 = ap (λ n. x % n) (sym two) ∙ access.aligned in omega arith
      | inr (inr four) ↦ let a : x % 4 ≡ 0 = ap (λ n. x % n) (sym four) ∙ access.aligned in omega arith
    ]

by_load : (load : Option (ℕ × ℕ)) (store : Option (ℕ × ℕ × ℕ)) (p : ℕ) → ForSome load (λ load. IsAccess load.0 load.1) → has_byte load p ≡ true
    → option_map line_of (option_or (option_map (λ load. load.0) load) (option_map (λ store. store.0) store)) ≡ Some (line_of p)
by_load None store p is h = absurd cc
by_load (Some (x, size)) store p is h =
    let from : x ≤ p = grind (arith, nat_tests) in
    let to : p < x + size = grind (arith, nat_tests) in
    ap Some (sym (access_line x size p (is (x, size) refl) from to))

pub loaded_line : (image : LoadedImage) (at : State) (p : ℕ) → loads (retired_at image at) p ≡ true → next_line image at ≡ Some (line_of p)
loaded_line image at p h =
    let effect : Effect = (retired_at image at).effect in
    ap (option_map line_of) (sym (law.recorded image at)) ∙ by_load effect.load effect.store p (retired_well image at).load h
