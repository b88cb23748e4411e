-- States that stand before an instruction of the recorded run: they agree with the recorded state there, outside X. One instruction leads
-- from one to the next, if it doesn't read the cycle counter.
use Rattle.std.proofs.Common.{◌≡◌, ◌⊎◌, ◌+◌, ◌≤◌, ◌<◌, ℕ, Bool, true, false, List, length, arith, refl, ap, sym, subst, ◌∙◌, inl, inr, add-one}
use Rattle.std.specs.Prelude.{Option, Some, ◌==◌, drop, nat_lt, option_map}
use Rattle.std.specs.Option.{option_map_or}
use Rattle.std.proofs.lemmas.Bool.Decides.{nat_tests}
use Rattle.elf_load.specs.Image.{LoadedImage}
use Rattle.rv_table.specs.Actions.{is_clocked}
use Rattle.rv_table.specs.Effects.{byte_put}
use Rattle.rv_isa.specs.Accesses.{address_of, line_of, next_action, next_line}
use Rattle.rv_isa.specs.Effects.{retired_at}
use Rattle.rv_isa.specs.Instruction.{State as Arch, end_of, instruction}
use Rattle.rv_isa.specs.Instruction.{op_at, reg, with_byte}
use Rattle.rv_isa.specs.Words.{IsWords}
use Rattle.rv_isa.proofs.Accessed.{law as access-law}
use Rattle.need_pass.specs.Law.{Seen, seen}
use Rattle.need_pass.specs.Needed.{Agrees}
use Rattle.need_pass.specs.Tables.{Needs}
use Rattle.tag_dist.specs.Lines.{accesses}
use Rattle.flush_view.specs.Avoids.{Avoids, AvoidsAll, IsOutside, masked, outside}
use Rattle.flush_view.proofs.Flush.Avoiding.{instruction-log}
use Rattle.flush_view.proofs.Flush.Counts.{completed-logged}
use Rattle.flush_view.proofs.Flush.FlushLaw.{after-logged}
use Rattle.ace_law.specs.Moments.{IsQuiet, IsTold, Moment, executed, retired, trace}
use Rattle.ace_law.proofs.Alike.{Alike, Ended, Going, IsLeftAlone, count_of, seen_as, spare}
use Rattle.ace_law.proofs.AlikeNext.{recorded-avoids, recorded-unclocked}
use Rattle.ace_law.proofs.Unclocked.{instruction-puts, instruction-stop, masked-instruction, unclocked-action, unclocked-clocks}
use Rattle.ace_law.proofs.Told.{trace-next}

-- ---- what is seen of it

instruction-counts : (image : LoadedImage) (at : Arch) → length (instruction image at).log.actions ≡ length at.log.actions + 1
unfolding instruction
instruction-counts image at =
    completed-logged image (op_at image at.pc) at.pc (reg at.registers (op_at image at.pc).rs1) (reg at.registers (op_at image at.pc).rs2) at

seen-end : (image : LoadedImage) (s u : Arch) → seen image s ≡ seen image u → end_of (next_action image s) ≡ end_of (next_action image u)
unfolding seen
seen-end image s u e = ap (λ (x : Seen). x.end) e

seen-byte : (image : LoadedImage) (s u : Arch) → seen image s ≡ seen image u → byte_put (next_action image s) ≡ byte_put (next_action image u)
unfolding seen
seen-byte image s u e = ap (λ (x : Seen). x.byte) e

seen-address : (image : LoadedImage) (s u : Arch) → seen image s ≡ seen image u → address_of (next_action image s) ≡ address_of (next_action image u)
unfolding seen
seen-address image s u e = access-law.same (next_action image s) (next_action image u) (ap (λ (x : Seen). x.access) e)

-- ---- what the recorded run accesses

same_line : (line : ℕ) → (line == line) ≡ true
same_line line = grind (arith, nat_tests)

pub accessed : (image : LoadedImage) (at : Arch) (line : ℕ) → next_line image at ≡ Some line → accesses line (retired_at image at) ≡ true
accessed image at line h =
    ap (λ (o : Option ℕ). option_map_or (λ (x : ℕ). x == line) o false) (ap (option_map line_of) (access-law.recorded image at) ∙ h) ∙ same_line line

-- ---- standing before an instruction

pub record Stands (a : Moment) (out : ℕ → Bool) (i : ℕ) (at : Arch) (budget : ℕ) : Type 0 where
  pub unread : at.clocks ≡ spare
  pub avoids : AvoidsAll out at.log.actions
  pub stop : at.stop ≡ (trace a i).stop
  pub words : IsWords (seen_as out (trace a i) at)
  pub agrees : Agrees (drop i a.run.entries) (trace a i) (seen_as out (trace a i) at)
  pub puts : at.log.output ≡ (trace a i).log.output
  pub count : count_of a + length at.log.actions ≤ i + budget

module _ (a : Moment) (table : Needs) (told : IsTold a.r a.run table) (out : ℕ → Bool) where
  -- a flush that stands somewhere from EX on is alike
  pub stands-alike : (i : ℕ) (at : Arch) (budget : ℕ) → executed a ≤ i → i ≤ count_of a → Stands a out i at budget → Alike a out at budget
  stands-alike i at budget from within s = record { unread = s.unread; avoids = s.avoids; case = go (nat_lt i (count_of a)) refl }
    where
      go : (b : Bool) → nat_lt i (count_of a) ≡ b → Going a out at budget ⊎ Ended a at budget
      go true e =
          let below : i < count_of a = grind (arith, nat_tests) in
          inl (record {
            i = i;
            from = from;
            below = below;
            stop = s.stop ∙ told.traced.running i below;
            words = s.words;
            agrees = s.agrees;
            puts = s.puts;
            count = s.count;
          })
      go false e =
          let last : i ≡ count_of a = grind (arith, nat_tests) in
          let count = s.count in
          inr (record {
            stop = s.stop ∙ ap (λ (n : ℕ). (trace a n).stop) last ∙ told.traced.ends;
            puts = s.puts ∙ ap (λ (n : ℕ). (trace a n).log.output) last ∙ told.traced.puts;
            count = omega (arith, count, last);
          })

  -- the next instruction
  pub stands-next : IsQuiet a → IsLeftAlone a out → (i : ℕ) (at : Arch) (budget : ℕ) → retired a ≤ i → executed a ≤ i → i < count_of a
      → Stands a out i at budget → Stands a out (i + 1) (instruction a.r.image at) budget
  stands-next quiet alone i at budget left from below s = record {
    unread = unclocked-clocks a.r.image at here ∙ s.unread;
    avoids = subst (AvoidsAll out) (sym (instruction-log a.r.image at)) (after-logged out at.log.actions (next_action a.r.image at) s.avoids avoids);
    stop =
        instruction-stop a.r.image at ∙ ap end_of same ∙ seen-end a.r.image z (trace a i) sees ∙ sym (instruction-stop a.r.image (trace a i))
        ∙ ap (λ (x : Arch). x.stop) next;
    words = subst IsWords (sym stood) (told.law.words z s.words);
    agrees = subst (Agrees (drop (i + 1) a.run.entries) (trace a (i + 1))) (sym stood) (told.law.agrees i z below s.words s.agrees);
    puts =
        instruction-puts a.r.image at ∙ ap (λ (xs : List ℕ). with_byte xs (byte_put (next_action a.r.image at))) s.puts
        ∙ ap (λ (o : Option ℕ). with_byte (trace a i).log.output o) (ap byte_put same ∙ seen-byte a.r.image z (trace a i) sees)
        ∙ sym (instruction-puts a.r.image (trace a i)) ∙ ap (λ (x : Arch). x.log.output) next;
    count = let count = s.count in let more = instruction-counts a.r.image at in omega (arith, count, more);
  }
    where
      z : Arch
      z = seen_as out (trace a i) at

      next : instruction a.r.image (trace a i) ≡ trace a (i + 1)
      next = sym (trace-next a table told i below) ∙ ap (trace a) (sym (add-one i))

      sees : seen a.r.image z ≡ seen a.r.image (trace a i)
      sees = told.law.sees i z below s.words s.agrees

      unclocked : is_clocked (op_at a.r.image (trace a i).pc) ≡ false
      unclocked = recorded-unclocked a table told i quiet from below

      here : is_clocked (op_at a.r.image at.pc) ≡ false
      here = ap (λ (pc : ℕ). is_clocked (op_at a.r.image pc)) s.agrees.pc ∙ unclocked

      same : next_action a.r.image at ≡ next_action a.r.image z
      same = sym (unclocked-action a.r.image (masked out at.memory) (trace a i).clocks at here)

      avoids : Avoids out (next_action a.r.image at)
      avoids =
          subst (IsOutside out) (sym (ap address_of same ∙ seen-address a.r.image z (trace a i) sees))
          (recorded-avoids a table told out i alone left below)

      clocks : (trace a (i + 1)).clocks ≡ (trace a i).clocks
      clocks = ap (λ (x : Arch). x.clocks) (sym next) ∙ unclocked-clocks a.r.image (trace a i) unclocked

      stood : seen_as out (trace a (i + 1)) (instruction a.r.image at) ≡ instruction a.r.image z
      stood =
          ap (λ (xs : List ℕ). record (outside out (instruction a.r.image at)) { clocks = xs }) clocks
          ∙ sym (masked-instruction a.r.image out (trace a i).clocks at here avoids)
