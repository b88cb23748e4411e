-- What keeps a flush alike: one more instruction of the run, and whatever happens in X. So do entries of the buffer as they are fetched.
use Rattle.std.proofs.Common.{◌≡◌, ◌≤◌, ◌<◌, ◌+◌, ◌⊎◌, inl, inr, ℕ, suc, Bool, true, false, List, [], ◌∷◌, length, arith, refl, ap, sym, subst}
use Rattle.std.proofs.Common.{◌∙◌, map}
use Rattle.std.specs.Prelude.{Option, None, Some, drop, nat_lt, option_map, ◌==◌, if◌then◌else◌}
use Rattle.std.specs.List.{All}
use Rattle.std.specs.Option.{option_map_or}
use Rattle.std.proofs.lemmas.Bool.Decides.{nat_tests}
use Rattle.std.proofs.lemmas.List.Elements.{All-head, All-tail}
use Rattle.rv_table.specs.Actions.{is_clocked}
use Rattle.rv_table.specs.Effects.{byte_put}
use Rattle.rv_isa.specs.Accesses.{address_of, line_of, next_action, recorded_address}
use Rattle.rv_isa.specs.Effects.{retired_at}
use Rattle.rv_isa.specs.Instruction.{State as Arch, Log, end_of, instruction, op_at, with_byte}
use Rattle.rv_isa.specs.Words.{IsWords}
use Rattle.rv_isa.specs.declared.effect.Retired.{Retired}
use Rattle.rv_isa.proofs.Accessed.{law as access-law}
use Rattle.inst_buf.specs.Entry.{Entry as Fetched}
use Rattle.cyc_machine.specs.InFlight.{completed_item, is_reached}
use Rattle.cyc_machine.specs.Pipeline.{fetched}
use Rattle.need_pass.specs.Law.{Seen, seen}
use Rattle.need_pass.specs.Needed.{Agrees}
use Rattle.need_pass.specs.Tables.{Needs}
use Rattle.tag_dist.specs.Lines.{accesses}
use Rattle.flush_view.specs.Avoids.{Avoids, AvoidsAll, IsOutside, masked, outside}
use Rattle.flush_view.specs.Flush.{completed_path, item_of_entry}
use Rattle.flush_view.proofs.Flush.Avoiding.{instruction-log}
use Rattle.flush_view.proofs.Flush.FlushLaw.{after-logged}
use Rattle.flush_view.proofs.Run.OnPath.{entry-next, reached-pc, reached-stop}
use Rattle.ace_law.specs.Moments.{IsQuiet, IsTold, Moment, executed, retired, trace}
use Rattle.ace_law.proofs.Alike.{Alike, Ended, Going, IsLeftAlone, count_of, seen_as}
use Rattle.ace_law.proofs.Told.{get-entry, trace-next}
use Rattle.ace_law.proofs.Unclocked.{instruction-longer, instruction-puts, instruction-stop, masked-instruction, unclocked-action, unclocked-clocks}

-- ---- whatever happens in X

pub alike-outside : (a : Moment) (out : ℕ → Bool) (at other : Arch) (budget : ℕ) → outside out other ≡ outside out at → Alike a out at budget
    → Alike a out other budget
alike-outside a out at other budget e alike = record {
  unread = ap (λ (z : Arch). z.clocks) e ∙ alike.unread;
  avoids = subst (λ (z : Log). AvoidsAll out z.actions) (sym logs) alike.avoids;
  case = go alike.case;
}
  where
    logs : other.log ≡ at.log
    logs = ap (λ (z : Arch). z.log) e

    go : Going a out at budget ⊎ Ended a at budget → Going a out other budget ⊎ Ended a other budget
    go (inl g) =
        let seen : seen_as out (trace a g.i) other ≡ seen_as out (trace a g.i) at = ap (λ (z : Arch). record z { clocks = (trace a g.i).clocks }) e in
        inl (record {
          i = g.i;
          from = g.from;
          below = g.below;
          stop = ap (λ (z : Arch). z.stop) e ∙ g.stop;
          words = subst IsWords (sym seen) g.words;
          agrees = subst (Agrees (drop g.i a.run.entries) (trace a g.i)) (sym seen) g.agrees;
          puts = ap (λ (z : Log). z.output) logs ∙ g.puts;
          count = subst (λ (z : Log). count_of a + length z.actions ≤ g.i + budget) (sym logs) g.count;
        })
    go (inr d) = inr (record {
      stop = ap (λ (z : Arch). z.stop) e ∙ d.stop;
      puts = ap (λ (z : Log). z.output) logs ∙ d.puts;
      count = subst (λ (z : Log). length z.actions ≤ budget) (sym logs) d.count;
    })

-- ---- one more instruction

-- the next instruction of a state does what recorded instruction i did, reads no cycle counter and accesses no line of X
record DoesAs (a : Moment) (out : ℕ → Bool) (i : ℕ) (at : Arch) : Type 0 where
  unclocked : is_clocked (op_at a.r.image at.pc) ≡ false
  avoids : Avoids out (next_action a.r.image at)
  byte : byte_put (next_action a.r.image at) ≡ byte_put (next_action a.r.image (trace a i))
  end : end_of (next_action a.r.image at) ≡ end_of (next_action a.r.image (trace a i))

same_line : (line other : ℕ) → line ≡ other → (line == other) ≡ true
same_line line other e = grind (arith, nat_tests)

accesses-by : (line x : ℕ) (entry : Retired) → recorded_address entry.effect ≡ Some x → line_of x ≡ line → accesses line entry ≡ true
accesses-by line x entry e h =
    ap (λ (o : Option ℕ). option_map_or (λ accessed. accessed == line) (option_map line_of o) false) e ∙ same_line (line_of x) line h

module _ (a : Moment) (table : Needs) (told : IsTold a.r a.run table) where
  -- a recorded instruction that hasn't left EX, in a quiet cycle
  pub recorded-unclocked : (i : ℕ) → IsQuiet a → executed a ≤ i → i < count_of a → is_clocked (op_at a.r.image (trace a i).pc) ≡ false
  unfolding retired_at
  recorded-unclocked i quiet from below = quiet i (retired_at a.r.image (trace a i)) from (get-entry a table told i below)

  -- and one that hasn't left the memory stage
  pub recorded-avoids : (out : ℕ → Bool) (i : ℕ) → IsLeftAlone a out → retired a ≤ i → i < count_of a → Avoids out (next_action a.r.image (trace a i))
  recorded-avoids out i alone from below = go (address_of (next_action a.r.image (trace a i))) (access-law.recorded a.r.image (trace a i))
    where
      at : (x : ℕ) → recorded_address (retired_at a.r.image (trace a i)).effect ≡ Some x → (b : Bool) → out (line_of x) ≡ b → b ≡ false
      at x e false h = refl
      at x e true h =
          absurd (alone (line_of x) h (
            i,
            retired_at a.r.image (trace a i),
            from,
            get-entry a table told i below,
            accesses-by (line_of x) x (retired_at a.r.image (trace a i)) e refl,
          ))

      go : (o : Option ℕ) → recorded_address (retired_at a.r.image (trace a i)).effect ≡ o → IsOutside out o
      go None e = tt
      go (Some x) e = at x e (out (line_of x)) refl

  trace-after : (i : ℕ) → i < count_of a → trace a (i + 1) ≡ instruction a.r.image (trace a i)
  trace-after i below = let n : i + 1 ≡ suc i = omega arith in ap (trace a) n ∙ trace-next a table told i below

  does-as : (out : ℕ → Bool) (i : ℕ) (at : Arch) → IsQuiet a → IsLeftAlone a out → executed a ≤ i → i < count_of a
      → IsWords (seen_as out (trace a i) at) → Agrees (drop i a.run.entries) (trace a i) (seen_as out (trace a i) at) → DoesAs a out i at
  unfolding seen
  does-as out i at quiet alone from below words agrees =
      let sees : seen a.r.image (seen_as out (trace a i) at) ≡ seen a.r.image (trace a i) =
      told.law.sees i (seen_as out (trace a i) at) below words agrees in
      let unclocked : is_clocked (op_at a.r.image at.pc) ≡ false =
      ap (λ pc. is_clocked (op_at a.r.image pc)) agrees.pc ∙ recorded-unclocked i quiet from below in
      let acts : next_action a.r.image (seen_as out (trace a i) at) ≡ next_action a.r.image at =
      unclocked-action a.r.image (masked out at.memory) (trace a i).clocks at unclocked in
      let place : address_of (next_action a.r.image at) ≡ address_of (next_action a.r.image (trace a i)) =
      ap address_of (sym acts) ∙ access-law.same _ _ (ap (λ (x : Seen). x.access) sees) in
      record {
        unclocked = unclocked;
        avoids = subst (IsOutside out) (sym place) (recorded-avoids out i alone (omega (arith, from)) below);
        byte = ap byte_put (sym acts) ∙ ap (λ (x : Seen). x.byte) sees;
        end = ap end_of (sym acts) ∙ ap (λ (x : Seen). x.end) sees;
      }

  -- what it leaves, seen as the recorded run could hold it
  seen-next : (out : ℕ → Bool) (i : ℕ) (at : Arch) → i < count_of a → DoesAs a out i at → is_clocked (op_at a.r.image (trace a i).pc) ≡ false
      → instruction a.r.image (seen_as out (trace a i) at) ≡ seen_as out (trace a (i + 1)) (instruction a.r.image at)
  seen-next out i at below does unclocked =
      masked-instruction a.r.image out (trace a i).clocks at does.unclocked does.avoids
      ∙ ap (λ (clocks : List ℕ). record (instruction a.r.image at) { memory = masked out (instruction a.r.image at).memory; clocks = clocks })
      (sym (unclocked-clocks a.r.image (trace a i) unclocked) ∙ ap (λ (z : Arch). z.clocks) (sym (trace-after i below)))

  puts-next : (out : ℕ → Bool) (i : ℕ) (at : Arch) → i < count_of a → DoesAs a out i at → at.log.output ≡ (trace a i).log.output
      → (instruction a.r.image at).log.output ≡ (trace a (i + 1)).log.output
  puts-next out i at below does puts =
      instruction-puts a.r.image at
      ∙ ap (λ (xs : List ℕ). with_byte xs (byte_put (next_action a.r.image at))) puts
      ∙ ap (with_byte (trace a i).log.output) does.byte
      ∙ sym (instruction-puts a.r.image (trace a i))
      ∙ ap (λ (z : Arch). z.log.output) (sym (trace-after i below))

  stop-next : (out : ℕ → Bool) (i : ℕ) (at : Arch) → i < count_of a → DoesAs a out i at → (instruction a.r.image at).stop ≡ (trace a (i + 1)).stop
  stop-next out i at below does =
      instruction-stop a.r.image at ∙ does.end ∙ sym (instruction-stop a.r.image (trace a i)) ∙ ap (λ (z : Arch). z.stop) (sym (trace-after i below))

  -- it was the last, or the run goes on
  case-next : (out : ℕ → Bool) (at : Arch) (budget : ℕ) → IsQuiet a → (g : Going a out at budget) → DoesAs a out g.i at
      → Going a out (instruction a.r.image at) budget ⊎ Ended a (instruction a.r.image at) budget
  case-next out at budget quiet g does = go (nat_lt (g.i + 1) (count_of a)) refl
    where
      unclocked : is_clocked (op_at a.r.image (trace a g.i).pc) ≡ false
      unclocked = recorded-unclocked g.i quiet g.from g.below

      longer-by : length (instruction a.r.image at).log.actions ≤ length at.log.actions + 1
      longer-by = instruction-longer a.r.image at

      go : (b : Bool) → nat_lt (g.i + 1) (count_of a) ≡ b → Going a out (instruction a.r.image at) budget ⊎ Ended a (instruction a.r.image at) budget
      go true e =
          let l : g.i + 1 < count_of a = grind (arith, nat_tests) in
          inl (record {
            i = g.i + 1;
            from = let from = g.from in omega (arith, from);
            below = l;
            stop = stop-next out g.i at g.below does ∙ told.traced.running (g.i + 1) l;
            words = subst IsWords (seen-next out g.i at g.below does unclocked) (told.law.words (seen_as out (trace a g.i) at) g.words);
            agrees = subst (Agrees (drop (g.i + 1) a.run.entries) (trace a (g.i + 1))) (seen-next out g.i at g.below does unclocked)
                (told.law.agrees g.i (seen_as out (trace a g.i) at) g.below g.words g.agrees);
            puts = puts-next out g.i at g.below does g.puts;
            count = let count = g.count in omega (arith, count, longer-by);
          })
      go false e =
          let below : g.i < count_of a = g.below in
          let l : count_of a ≤ g.i + 1 = grind (arith, nat_tests) in
          let last : g.i + 1 ≡ count_of a = omega (arith, below, l) in
          inr (record {
            stop = stop-next out g.i at g.below does ∙ ap (λ n. (trace a n).stop) last ∙ told.traced.ends;
            puts = puts-next out g.i at g.below does g.puts ∙ ap (λ n. (trace a n).log.output) last ∙ told.traced.puts;
            count = let count = g.count in omega (arith, count, longer-by, last);
          })

  pub alike-next : (out : ℕ → Bool) (at : Arch) (budget : ℕ) → IsQuiet a → IsLeftAlone a out → at.stop ≡ None → Alike a out at budget
      → Alike a out (instruction a.r.image at) budget
  alike-next out at budget quiet alone running alike = go alike.case
    where
      go : Going a out at budget ⊎ Ended a at budget → Alike a out (instruction a.r.image at) budget
      go (inr d) = let ended = d.stop in absurd cc
      go (inl g) =
          let does : DoesAs a out g.i at = does-as out g.i at quiet alone g.from g.below g.words g.agrees in
          record {
            unread = unclocked-clocks a.r.image at does.unclocked ∙ alike.unread;
            avoids = subst (AvoidsAll out) (sym (instruction-log a.r.image at))
                (after-logged out at.log.actions (next_action a.r.image at) alike.avoids does.avoids);
            case = case-next out at budget quiet g does;
          }

  pub alike-avoids : (out : ℕ → Bool) (at : Arch) (budget : ℕ) → IsQuiet a → IsLeftAlone a out → at.stop ≡ None → Alike a out at budget
      → Avoids out (next_action a.r.image at)
  alike-avoids out at budget quiet alone running alike = go alike.case
    where
      go : Going a out at budget ⊎ Ended a at budget → Avoids out (next_action a.r.image at)
      go (inr d) = let ended = d.stop in absurd cc
      go (inl g) = let does : DoesAs a out g.i at = does-as out g.i at quiet alone g.from g.below g.words g.agrees in does.avoids

  -- ---- entries of the buffer, as they are fetched

  entries-alike : (out : ℕ → Bool) (waiting : List Fetched) (at : Arch) (budget : ℕ) → IsQuiet a → IsLeftAlone a out
      → All (λ entry. entry ≡ fetched a.r.image entry.pc) waiting → Alike a out at budget
      → Alike a out (completed_path a.r.image (map item_of_entry waiting) at) budget
  unfolding completed_path
  entries-alike out [] at budget quiet alone words alike = alike
  entries-alike out (e ∷ waiting) at budget quiet alone words alike =
      go (λ z more. entries-alike out waiting z budget quiet alone (All-tail (λ entry. entry ≡ fetched a.r.image entry.pc) e waiting words) more)
      (is_reached (item_of_entry e) at) refl
    where
      go : ((z : Arch) → Alike a out z budget → Alike a out (completed_path a.r.image (map item_of_entry waiting) z) budget)
          → (b : Bool) → is_reached (item_of_entry e) at ≡ b
          → Alike a out
          (if b then completed_path a.r.image (map item_of_entry waiting) (completed_item a.r.image (item_of_entry e) at) else at) budget
      go rest true h =
          let next : completed_item a.r.image (item_of_entry e) at ≡ instruction a.r.image at =
          entry-next a.r.image e at (All-head (λ entry. entry ≡ fetched a.r.image entry.pc) e waiting words) (reached-pc (item_of_entry e) at h) in
          rest (completed_item a.r.image (item_of_entry e) at) (subst (λ (z : Arch). Alike a out z budget) (sym next)
          (alike-next out at budget quiet alone (reached-stop at.stop (e.pc == at.pc) h) alike))
      go rest false h = alike

pub fetched-alike : (a : Moment) (table : Needs) (out : ℕ → Bool) (waiting : List Fetched) (at : Arch) (budget : ℕ)
    → IsTold a.r a.run table → IsQuiet a → IsLeftAlone a out → All (λ entry. entry ≡ fetched a.r.image entry.pc) waiting → Alike a out at budget
    → Alike a out (completed_path a.r.image (map item_of_entry waiting) at) budget
fetched-alike a table out waiting at budget told quiet alone words alike = entries-alike a table told out waiting at budget quiet alone words alike
