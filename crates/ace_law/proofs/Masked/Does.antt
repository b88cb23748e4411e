-- States that do the same as the recorded one from some instruction on are alike.
use Rattle.std.proofs.Common.{◌≡◌, ◌⊎◌, inl, inr, ℕ, zero, suc, ◌+◌, ◌^◌, ◌≤◌, ◌<◌, length, arith, lit<, refl, ap, ◌∙◌}
use Rattle.std.specs.Prelude.{Option, Some, None, drop}
use Rattle.std.specs.List.{All}
use Rattle.avf_base.specs.declared.end.End.{End}
use Rattle.rv_isa.specs.Instruction.{State as Arch}
use Rattle.rv_isa.specs.Words.{IsWords}
use Rattle.need_pass.specs.Needed.{Agrees}
use Rattle.need_pass.specs.ProgramBits.{ProgramBit, Register, Byte, bit_of}
use Rattle.need_pass.specs.Tables.{Needs}
use Rattle.flush_view.specs.Avoids.{masked}
use Rattle.flush_view.specs.RunFacts.{no_line}
use Rattle.ace_law.specs.Moments.{IsTold, Moment, executed, trace}
use Rattle.ace_law.proofs.Alike.{Alike, Ended, Going, count_of, seen_as, spare}
use Rattle.ace_law.proofs.Told.{running-below, trace-words}
use Rattle.ace_law.proofs.Masked.Known.{at-end, behind-last}
use Rattle.ace_law.proofs.Masked.Stands.{avoids-none}

pub spare-below : All (λ clock. clock < 2 ^ 32) spare
spare-below zero d l = lit< tt
spare-below (suc k) d l = absurd (omega arith)

-- The state has taken no clock value, and has ended as the recorded one before instruction j, or agrees with it. Of the actions that are
-- completed there are not more than the budget leaves.
pub record Does (a : Moment) (j : ℕ) (at : Arch) (budget : ℕ) : Type 0 where
  pub unread : at.clocks ≡ spare
  pub puts : at.log.output ≡ (trace a j).log.output
  pub stop : at.stop ≡ (trace a j).stop
  pub agrees : (trace a j).stop ≡ None → Agrees (drop j a.run.entries) (record (trace a j) { clocks = spare }) at
  pub words : IsWords at
  pub going : (trace a j).stop ≡ None → count_of a + length at.log.actions ≤ j + budget
  pub ended : count_of a ≤ j → length at.log.actions ≤ budget

-- other clock values change no bit, and no line is left out
pub spare-bit : (at : Arch) (p : ProgramBit) → bit_of (record at { clocks = spare }) p ≡ bit_of at p
spare-bit at (Register r k) = refl
spare-bit at (Byte p k) = refl

seen-bit : (recorded at : Arch) (p : ProgramBit) → bit_of (seen_as no_line recorded at) p ≡ bit_of at p
unfolding masked
seen-bit recorded at (Register r k) = refl
seen-bit recorded at (Byte p k) = refl

module _ (a : Moment) (table : Needs) (told : IsTold a.r a.run table) (j : ℕ) (at : Arch) (budget : ℕ) (from : executed a ≤ j)
    (does : Does a j at budget) where
  goes-on : (trace a j).stop ≡ None → Going a no_line at budget
  unfolding masked
  goes-on running =
      let same = does.agrees running in
      record {
        i = j;
        from = from;
        below = running-below a table told j running;
        stop = does.stop ∙ running;
        words =
            record {
              registers = does.words.registers;
              memory = λ p. does.words.memory p;
              count = does.words.count;
              clocks = let recorded = trace-words a table told j in recorded.clocks;
            };
        agrees =
            record {
              pc = same.pc;
              count = same.count;
              clocks = refl;
              bits = λ p need. seen-bit (trace a j) at p ∙ same.bits p need ∙ spare-bit (trace a j) p;
            };
        puts = does.puts;
        count = does.going running;
      }

  has-ended : (end : End) → (trace a j).stop ≡ Some end → Ended a at budget
  has-ended end e =
      let last : count_of a ≤ j = behind-last a table told j end e in
      let stays : trace a j ≡ trace a (count_of a) = at-end a table told j last in
      record {
        stop = does.stop ∙ ap (λ (z : Arch). z.stop) stays ∙ told.traced.ends;
        puts = does.puts ∙ ap (λ (z : Arch). z.log.output) stays ∙ told.traced.puts;
        count = does.ended last;
      }

  pub does-alike : Alike a no_line at budget
  does-alike = record { unread = does.unread; avoids = avoids-none at.log.actions; case = go (trace a j).stop refl }
    where
      go : (o : Option End) → (trace a j).stop ≡ o → Going a no_line at budget ⊎ Ended a at budget
      go None e = inl (goes-on e)
      go (Some end) e = inr (has-ended end e)
