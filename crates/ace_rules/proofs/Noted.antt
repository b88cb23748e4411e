-- The notes of the cycles so far, the masks of the instructions so far, and the first quiet cycle so far.
use Rattle.std.proofs.Common.{◌≡◌, ◌+◌, ◌≤◌, ◌<◌, ℕ, zero, suc, Bool, true, false, List, [], ◌∷◌, ◌++◌, length, arith, refl, ap, sym, ◌∙◌, subst}
use Rattle.std.proofs.Common.{inl, inr, length-append}
use Rattle.std.specs.Prelude.{Some, None, ◌⊎◌, option_map, slice_get, nat_lt, if◌then◌else◌}
use Rattle.std.proofs.lemmas.Bool.Decides.{nat_tests}
use Rattle.elf_load.specs.Image.{LoadedImage}
use Rattle.rv_isa.specs.Architecture.{ArchState, state_of}
use Rattle.rv_isa.specs.Instruction.{State as Arch, end_of}
use Rattle.rv_isa.specs.Runs.{reset as arch_reset, after}
use Rattle.cyc_machine.specs.InFlight.{Item}
use Rattle.flush_view.specs.Flush.{path}
use Rattle.need_pass.specs.Tables.{Needs}
use Rattle.ace_law.specs.Moments.{IsTold, Moment, executed, retired, state, trace}
use Rattle.ace_rules.specs.Notes.{IsNote, address_at, IsWordMaskOf, Story, moment}
use Rattle.ace_rules.specs.Walking.{AreJudged, AreNoted, IsQuietSince, silent}
use Rattle.ace_rules.specs.Walks.{IsNoteOf, Leaves, on_path_in}
use Rattle.ace_rules.specs.declared.note.Note.{Note}
use Rattle.ace_law.proofs.Told.{entry-below, facts}
use Rattle.ace_rules.proofs.Judged.{bare-silent, silent-next, word-judged}
use Rattle.ace_rules.proofs.OnPath.{address-in, latch-in, missed-in, on_path-in}

pushed : {A : Type 0} (xs : List A) (x y : A) (i : ℕ) → slice_get (xs ++ x ∷ []) i ≡ Some y → (slice_get xs i ≡ Some y) ⊎ ((i ≡ length xs) × (x ≡ y))
pushed [] x y zero e = inr (refl, cc)
pushed [] x y (suc i) e = absurd cc
pushed (z ∷ xs) x y zero e = inl e
pushed (z ∷ xs) x y (suc i) e = elim (pushed xs x y i e) [ inl h ↦ inl h | inr h ↦ inr (ap suc h.0, h.1) ]

-- ---- the masks of words

reset-silent : (image : LoadedImage) (clocks : List ℕ) → silent (arch_reset image []) ≡ silent (after image 0 (arch_reset image clocks))
unfolding after arch_reset
reset-silent image clocks = refl

module _ (story : Story) (table : Needs) (told : IsTold story.r story.run table) where
  pub judged_start : (arch : ArchState) → arch.image ≡ story.r.image → state_of arch ≡ arch_reset story.r.image [] → AreJudged story table arch []
  judged_start arch image state = record {
    image = image;
    stands = ap silent state ∙ reset-silent story.r.image story.r.clocks;
    word = λ i mask h. absurd cc;
  }

  word-behind : (arch : ArchState) (words : List ℕ) (new : ℕ) → AreJudged story table arch words
      → IsWordMaskOf (moment story 0) table (length words) new
      → (i mask : ℕ) → slice_get (words ++ new ∷ []) i ≡ Some mask → IsWordMaskOf (moment story 0) table i mask
  word-behind arch words new before is i mask h = elim (pushed words new mask i h) [
    | inl earlier ↦ before.word i mask earlier
    | inr last ↦ rw (last.0, ← last.1) is
  ]

  pub judged_on : (arch next : ArchState) (words masks : List ℕ) → Leaves table story.run.entries arch next words masks
      → AreJudged story table arch words
      → AreJudged story table next masks
  judged_on arch next words masks leaves before =
      let a = moment story 0 in
      let below : length words < length story.run.entries = entry-below a table told (length words) leaves.entry leaves.is in
      let longer : suc (length words) ≡ length (words ++ leaves.mask ∷ []) = omega (arith, length-append words (leaves.mask ∷ [])) in
      let judged = word-judged a table told (length words) leaves.mask arch below before.image before.stands leaves.judged in
      rw leaves.kept (record {
        image = leaves.image ∙ before.image;
        stands = silent-next a table told (length words) arch next leaves.entry leaves.is before.stands leaves.state
            ∙ ap (λ i. silent (trace a i)) longer;
        word = word-behind arch words leaves.mask before judged;
      })

-- ---- the notes

module _ (a : Moment) (table : Needs) (told : IsTold a.r a.run table) (below : a.t < a.r.cycles) where
  -- the instruction that EX/MEM holds, or the next one, comes before the end
  pub retired-running : (trace a (retired a)).stop ≡ None
  retired-running = elim (facts a table told below).held [
    | inl empty ↦
        ap (λ i. (trace a i).stop) (sym empty.1) ∙ sym (ap (λ (at : Arch). at.stop) (facts a table told below).position) ∙ ap end_of empty.0
    | inr full ↦ (facts a table told below).running (retired a) (let e = full.1 in omega (arith, e))
  ]

  pub note-is : (arch : ArchState) (note : Note) → arch.image ≡ a.r.image → silent (state_of arch) ≡ silent (trace a (retired a))
      → IsNoteOf (state a) arch a.run.entries table (executed a) note → IsNote a table note
  note-is arch note image stands is = record {
    left = is.left;
    occupied = is.occupied;
    traps = is.traps;
    executed_rd = is.executed_rd;
    result_rd = is.result_rd;
    decoded_rd = is.decoded_rd;
    decoded = is.decoded;
    decoded_on_path = is.decoded_on_path ∙ sym (latch-in a table told);
    decoded_next = is.decoded_next;
    waiting = is.waiting;
    on_path = is.on_path ∙ sym (on_path-in a table told);
    next =
        is.next
        ∙ address-in a table told (executed a + on_path_in (state a) a.run.entries (executed a))
        ∙ ap (λ (n : ℕ). address_at (trace a (executed a + n))) (sym (on_path-in a table told));
    missed =
        is.missed
        ∙ missed-in a table told (on_path_in (state a) a.run.entries (executed a))
        ∙ ap (λ (n : ℕ). option_map (λ (item : Item). item.pc) (slice_get (path (state a)) n)) (sym (on_path-in a table told));
    stores = is.stores;
    masks = record { arch = arch; image = image; stands = bare-silent arch (trace a (retired a)) stands retired-running; exact = is.masks };
  }

pub noted_start : (story : Story) (table : Needs) → AreNoted story table 0 []
noted_start story table = record { cycles = refl; each = λ k note h. absurd cc }

pub noted_on : (story : Story) (table : Needs) (t : ℕ) (notes : List Note) (note : Note) → IsNote (moment story t) table note
    → AreNoted story table t notes
    → AreNoted story table (suc t) (notes ++ note ∷ [])
noted_on story table t notes note is before = record {
  cycles = let e = before.cycles in omega (arith, length-append notes (note ∷ []), e);
  each = λ k other h.
      elim (pushed notes note other k h) [
        | inl earlier ↦ before.each k other earlier
        | inr last ↦ rw (last.0 ∙ before.cycles, ← last.1) is
      ];
}

-- ---- the first quiet cycle

pub quiet_start : (story : Story) (last : ℕ) → IsQuietSince story last 0 0
quiet_start story last = record { loud = λ k l. absurd (omega (arith, l)); still = λ k l h. absurd (omega (arith, l)) }

pub quiet_on : (story : Story) (last t quiet : ℕ) → ((k : ℕ) → k ≤ t → executed (moment story k) ≤ executed (moment story t))
    → IsQuietSince story last t quiet
    → IsQuietSince story last (suc t) (if nat_lt (executed (moment story t)) last then t + 1 else quiet)
quiet_on story last t quiet rises before = go (nat_lt (executed (moment story t)) last) refl
  where
    still : nat_lt (executed (moment story t)) last ≡ false → (k : ℕ) → k < suc t → quiet ≤ k → (b : Bool) → nat_lt k t ≡ b
        → last ≤ executed (moment story k)
    still e k l h true f = before.still k (grind (arith, nat_tests)) h
    still e k l h false f =
        let same : t ≡ k = grind (arith, nat_tests) in
        let here : last ≤ executed (moment story t) = grind (arith, nat_tests) in
        subst (λ k. last ≤ executed (moment story k)) same here

    go : (b : Bool) → nat_lt (executed (moment story t)) last ≡ b → IsQuietSince story last (suc t) (if b then t + 1 else quiet)
    go true e = record {
      loud = λ k l. let r = rises k (omega (arith, l)) in let h : executed (moment story t) < last = grind (arith, nat_tests) in omega (arith, r, h);
      still = λ k l h. absurd (omega (arith, l, h));
    }
    go false e = record { loud = before.loud; still = λ k l h. still e k l h (nat_lt k t) refl }
