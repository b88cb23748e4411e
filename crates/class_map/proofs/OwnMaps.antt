-- The map of a run is accepted.
use Rattle.std.proofs.Common.{◌≡◌, ℕ, ◌+◌, ◌<◌, ◌≤◌, ◌^◌, Bool, true, false, not, ◌&&◌, List, [], ◌∷◌, ◌++◌, length, map, Option, None, Some, refl, sym, ap, ◌∙◌, subst, append_assoc, append-nil, sum_by, arith}
use Rattle.std.specs.Prelude.{Ok, codes, decimal, nat_le, nat_lt, ◌==◌}
use Rattle.std.specs.List.{join_with_byte, list_all}
use Rattle.std.proofs.lemmas.Bool.{and_parts}
use Rattle.std.proofs.lemmas.Bool.Decides.{nat_tests}
use Rattle.std.proofs.lemmas.Fmt.{length-decimal-le}
use Rattle.std.proofs.Math.ListN.{length-append}
use Rattle.std.proofs.lemmas.List.Sums.{sum_by-cons}
use Rattle.bit_field.specs.Names.{name_of}
use Rattle.bit_field.specs.Shapes.{IsShape, bits_in}
use Rattle.bit_field.specs.declared.places.Structure.{Structure}
use Rattle.bit_field.specs.declared.places.Structure.TheVariants.{Pc, Npc, Bht, Btb, Ib, IdEx, ExMem, MemWb}
use Rattle.bit_field.specs.declared.places.Structure.TheVariants.{Rf, Sb, Port, CData, CTag, CValid, CDirty, CLru}
use Rattle.run_record.specs.Run.{RecordedRun}
use Rattle.ace_class.proofs.Sizes.{bits_in_most}
use Rattle.ace_class.specs.Classes.{number_of}
use Rattle.ace_class.specs.declared.class.Rule.{Rule}
use Rattle.ace_class.specs.declared.class.Rule.TheVariants.{Timing, EmptyPlace, WrongPath, OnPath, Masked, DeadRegister, DeadData}
use Rattle.ace_class.specs.declared.class.Rule.TheVariants.{StoreRedirection, CleanData, CleanLine, UnaccessedLine, CleanTag, NoTrapCause}
use Rattle.ace_rules.specs.Notes.{Story}
use Rattle.class_map.specs.Checks.{ArePassed, IsAccepted, IsSpellable, Passes}
use Rattle.class_map.specs.Faults.{FileLine, behind, count_line, is_within, lines_of, meant, ordered, says, start}
use Rattle.class_map.specs.Judging.{ended_line}
use Rattle.class_map.specs.Lines.{follows, pairs_of}
use Rattle.class_map.specs.Maps.{AreAllNext, AreAll, IsMapLine, IsNextLine}
use Rattle.class_map.specs.Pieces.{HasNoFeed}
use Rattle.class_map.specs.Spellings.{is_digit, number_behind, said}
use Rattle.class_map.specs.Spellings.{behind as behind_front}
use Rattle.class_map.specs.Texts.{blank, cycles_line, instructions_line, line_feed, lines_text, spelled, title}
use Rattle.class_map.specs.Written.{text_of}
use Rattle.class_map.specs.declared.judge.TheConstants.{LONGEST_LINE}
use Rattle.class_map.specs.declared.map_line.MapLine.{MapLine}
use Rattle.class_map.specs.declared.progress.Progress.{Progress}
use Rattle.class_map.proofs.FileLines.{cut_line, none_of}
use Rattle.class_map.proofs.HarmlessLines.{placed_is}
use Rattle.class_map.proofs.RoundTrips.{digits, numeral_decimal, said_spelled, words_of}

-- ---- no line feed stands in a line

feedless : List ℕ → Bool
feedless w = list_all (λ b. not (b == line_feed)) w

byte_free : (b : ℕ) → not (b == line_feed) ≡ true → (b == line_feed) ≡ false
byte_free b h = grind (arith, nat_tests)

no_feed : (w : List ℕ) → feedless w ≡ true → HasNoFeed w
unfolding feedless
no_feed [] h = tt
no_feed (b ∷ bs) h = let p = and_parts (not (b == line_feed)) (feedless bs) h in (byte_free b p.0, no_feed bs p.1)

digit_free : (b : ℕ) → is_digit b ≡ true → (b == line_feed) ≡ false
digit_free b h = grind (arith, nat_tests)

digits_free : (w : List ℕ) → list_all is_digit w ≡ true → HasNoFeed w
digits_free [] h = tt
digits_free (b ∷ bs) h = let p = and_parts (is_digit b) (list_all is_digit bs) h in (digit_free b p.0, digits_free bs p.1)

both_free : (v w : List ℕ) → HasNoFeed v → HasNoFeed w → HasNoFeed (v ++ w)
both_free [] w h k = k
both_free (b ∷ bs) w h k = (h.0, both_free bs w h.1 k)

no_feed_title : HasNoFeed title
unfolding feedless
no_feed_title = no_feed title refl

cycles_free : HasNoFeed (codes "cycles ")
unfolding feedless
cycles_free = no_feed (codes "cycles ") refl

instructions_free : HasNoFeed (codes "instructions ")
unfolding feedless
instructions_free = no_feed (codes "instructions ") refl

number_free : (n : ℕ) → n < 2 ^ 64 → HasNoFeed (decimal n)
number_free n h = digits_free (decimal n) (digits n h)

record IsShortName (s : Structure) : Type 0 where
  free : feedless (name_of s) ≡ true
  short : length (name_of s) ≤ 6

short_name : (s : Structure) → IsShortName s
unfolding feedless
short_name Pc = record { free = refl; short = omega arith }
short_name Npc = record { free = refl; short = omega arith }
short_name Bht = record { free = refl; short = omega arith }
short_name Btb = record { free = refl; short = omega arith }
short_name Ib = record { free = refl; short = omega arith }
short_name IdEx = record { free = refl; short = omega arith }
short_name ExMem = record { free = refl; short = omega arith }
short_name MemWb = record { free = refl; short = omega arith }
short_name Rf = record { free = refl; short = omega arith }
short_name Sb = record { free = refl; short = omega arith }
short_name Port = record { free = refl; short = omega arith }
short_name CData = record { free = refl; short = omega arith }
short_name CTag = record { free = refl; short = omega arith }
short_name CValid = record { free = refl; short = omega arith }
short_name CDirty = record { free = refl; short = omega arith }
short_name CLru = record { free = refl; short = omega arith }

spelled_free : (line : MapLine) → IsSpellable line → HasNoFeed (spelled line)
unfolding spelled
spelled_free line h =
    let bit : line.place.bit < 2 ^ 32 = h.bit in
    let from : line.from < 2 ^ 32 = h.from in
    let to : line.to < 2 ^ 32 = h.to in
    let rule : line.rule < 2 ^ 8 = h.rule in
    both_free (name_of line.place.structure) (blank ∷ (decimal line.place.bit ++ blank ∷ (decimal line.from ++ blank ∷ (decimal line.to ++ blank ∷ (codes "U" ++ decimal line.rule)))))
    (no_feed (name_of line.place.structure) (short_name line.place.structure).free) (
      refl,
      both_free (decimal line.place.bit) (blank ∷ (decimal line.from ++ blank ∷ (decimal line.to ++ blank ∷ (codes "U" ++ decimal line.rule))))
          (number_free line.place.bit (omega arith)) (
            refl,
            both_free (decimal line.from) (blank ∷ (decimal line.to ++ blank ∷ (codes "U" ++ decimal line.rule))) (number_free line.from (omega arith)) (
              refl,
              both_free (decimal line.to) (blank ∷ (codes "U" ++ decimal line.rule)) (number_free line.to (omega arith))
                  (refl, (refl, number_free line.rule (omega arith))),
            ),
          ),
    )

-- ---- a line isn't too long

sum_short : (name bit from to rule : List ℕ) → length name ≤ 6 → length bit ≤ 10 → length from ≤ 10 → length to ≤ 10 → length rule ≤ 10
    → length (join_with_byte blank (name ∷ bit ∷ from ∷ to ∷ (codes "U" ++ rule) ∷ [])) ≤ 64
sum_short name bit from to rule a b c d e = simp length-append (omega arith)

number_short : (n : ℕ) → n < 2 ^ 32 → length (decimal n) ≤ 10
number_short n h = length-decimal-le 10 n (omega arith) (omega arith) (omega arith)

spelled_short : (line : MapLine) → IsSpellable line → length (spelled line) ≤ 64
unfolding spelled
spelled_short line h =
    let rule : line.rule < 2 ^ 8 = h.rule in
    sum_short (name_of line.place.structure) (decimal line.place.bit) (decimal line.from) (decimal line.to) (decimal line.rule) (short_name line.place.structure).short
    (number_short line.place.bit h.bit) (number_short line.from h.from) (number_short line.to h.to) (number_short line.rule (omega arith))

-- ---- a line of the map at its place

rule_range : (rule : Rule) → (1 ≤ number_of rule) × (number_of rule ≤ 13)
rule_range Timing = (omega arith, omega arith)
rule_range EmptyPlace = (omega arith, omega arith)
rule_range WrongPath = (omega arith, omega arith)
rule_range OnPath = (omega arith, omega arith)
rule_range Masked = (omega arith, omega arith)
rule_range DeadRegister = (omega arith, omega arith)
rule_range DeadData = (omega arith, omega arith)
rule_range StoreRedirection = (omega arith, omega arith)
rule_range CleanData = (omega arith, omega arith)
rule_range CleanLine = (omega arith, omega arith)
rule_range UnaccessedLine = (omega arith, omega arith)
rule_range CleanTag = (omega arith, omega arith)
rule_range NoTrapCause = (omega arith, omega arith)

line_rule : (story : Story) (line : MapLine) → IsMapLine story line → (1 ≤ line.rule) × (line.rule ≤ 13)
line_rule story line is =
    let some : line.from < line.to = is.some in
    let here = is.right line.from (omega arith) some in
    let range = rule_range here.rule in
    let e = here.numbered in
    let low = range.0 in
    let high = range.1 in
    (omega (arith, e, low), omega (arith, e, high))

within_test : (bit bits from to cycles rule : ℕ) → bit < bits → from < to → to ≤ cycles → 1 ≤ rule → rule ≤ 13
    → (nat_lt bit bits && nat_lt from to && nat_le to cycles && nat_le 1 rule && nat_le rule 13) ≡ true
within_test bit bits from to cycles rule a b c d e = grind (arith, nat_tests)

line_within : (story : Story) (line : MapLine) → IsMapLine story line → is_within story.r.shape story.r.cycles line.place.structure (words_of line) ≡ true
line_within story line is =
    let range = line_rule story line is in
    within_test line.place.bit (bits_in line.place.structure story.r.shape) line.from line.to story.r.cycles line.rule is.place is.some is.within range.0 range.1

pub spellable : (story : Story) (line : MapLine) → IsShape story.r.shape → story.r.cycles < 2 ^ 32 → IsMapLine story line → IsSpellable line
spellable story line shape short is =
    let range = line_rule story line is in
    let high = range.1 in
    let some : line.from < line.to = is.some in
    let within : line.to ≤ story.r.cycles = is.within in
    let most = bits_in_most line.place.structure story.r.shape shape in
    let inside = is.place in
    record { bit = omega (arith, most, inside); from = omega arith; to = omega arith; rule = omega (arith, high) }

late_says : (run : RecordedRun) (p : Progress) (text : List ℕ) → 3 ≤ p.seen → length text ≤ 64 → says run p text ≡ meant run.shape run.cycles p.before (said text)
unfolding says
late_says run p text h short =
    let z : nat_lt LONGEST_LINE (length text) ≡ false = grind (arith, nat_tests) in
    let a : (p.seen == 0) ≡ false = grind (arith, nat_tests) in
    let b : (p.seen == 1) ≡ false = grind (arith, nat_tests) in
    let c : (p.seen == 2) ≡ false = grind (arith, nat_tests) in
    rw (z, a, b, c) refl

line_says : (story : Story) (p : Progress) (line : MapLine) → IsShape story.r.shape → story.r.cycles < 2 ^ 32 → 3 ≤ p.seen → IsNextLine story p.before line
    → says story.r p (spelled line) ≡ Ok (Some line)
line_says story p line shape short late next =
    let fits = spellable story line shape short next.is in
    late_says story.r p (spelled line) late (spelled_short line fits)
    ∙ ap (meant story.r.shape story.r.cycles p.before) (said_spelled line fits)
    ∙ ap (ordered p.before) (placed_is story.r.shape story.r.cycles line true (line_within story line next.is))
    ∙ in_order p.before line next.behind
  where
    in_order : (before : Option MapLine) (line : MapLine) → follows before line ≡ true → ordered before (Some line) ≡ Ok (Some line)
    in_order before line e = rw e refl

-- all lines of the map, one after the other
pub record PassedAll (story : Story) (p : Progress) (lines : List MapLine) : Type 0 where
  pub end : Progress
  pub passed : ArePassed story p (map (λ line. ended_line (spelled line)) lines) end
  pub whole : 3 ≤ end.seen
  pub counted : end.pairs ≡ p.pairs + sum_by pairs_of lines

pub all_passed : (story : Story) (p : Progress) (lines : List MapLine) → IsShape story.r.shape → story.r.cycles < 2 ^ 32 → 3 ≤ p.seen
    → AreAllNext story p.before lines → PassedAll story p lines
all_passed story p [] shape short late all = record { end = p; passed = refl; whole = late; counted = omega arith }
all_passed story p (line ∷ lines) shape short late all =
    let q : Progress = behind p (Some line) in
    let rest = all_passed story q lines shape short (omega arith) all.1 in
    let more = rest.counted in
    let sum : sum_by pairs_of (line ∷ lines) ≡ pairs_of line + sum_by pairs_of lines = sum_by-cons pairs_of line lines in
    record {
      end = rest.end;
      passed =
          (q, record { head = Some line; reads = line_says story p line shape short late all.0; right = all.0.is.right; behind = refl }, rest.passed);
      whole = rest.whole;
      counted = omega (arith, more, sum);
    }

-- ---- the first three lines

title_pass : (story : Story) → Passes story start (ended_line title) (behind start None)
unfolding says
title_pass story = record { head = None; reads = refl; right = tt; behind = refl }

counted_line : (n : ℕ) → count_line (Some n) n ≡ Ok None
counted_line n = let e : (n == n) ≡ true = grind (arith, nat_tests) in rw e refl

number_there : (front : List ℕ) (n : ℕ) → n < 2 ^ 32 → behind_front front (front ++ decimal n) ≡ Some (decimal n)
    → number_behind front (front ++ decimal n) ≡ Some n
unfolding number_behind
number_there front n h e = rw e (numeral_decimal n h)

cycles_pass : (story : Story) → story.r.cycles < 2 ^ 32 → Passes story (behind start None) (ended_line (cycles_line story.r.cycles)) (behind (behind start None) None)
unfolding says
cycles_pass story h =
    let few = number_short story.r.cycles h in
    let size = length-append (codes "cycles ") (decimal story.r.cycles) in
    let short : nat_lt LONGEST_LINE (length (cycles_line story.r.cycles)) ≡ false = grind (arith, nat_tests) in
    record {
      head = None;
      reads = rw (short, number_there (codes "cycles ") story.r.cycles h refl) (counted_line story.r.cycles);
      right = tt;
      behind = refl;
    }

instructions_pass : (story : Story) → story.r.instructions < 2 ^ 32
    → Passes story (behind (behind start None) None) (ended_line (instructions_line story.r.instructions)) (behind (behind (behind start None) None) None)
unfolding says
instructions_pass story h =
    let few = number_short story.r.instructions h in
    let size = length-append (codes "instructions ") (decimal story.r.instructions) in
    let short : nat_lt LONGEST_LINE (length (instructions_line story.r.instructions)) ≡ false = grind (arith, nat_tests) in
    record {
      head = None;
      reads = rw (short, number_there (codes "instructions ") story.r.instructions h refl) (counted_line story.r.instructions);
      right = tt;
      behind = refl;
    }

-- ---- the lines of the text

rest_lines : (story : Story) (before : Option MapLine) (lines : List MapLine) → IsShape story.r.shape → story.r.cycles < 2 ^ 32 → AreAllNext story before lines
    → lines_of (lines_text lines) ≡ map (λ line. ended_line (spelled line)) lines
rest_lines story before [] shape short all = none_of
rest_lines story before (line ∷ lines) shape short all =
    ap lines_of (append_assoc (spelled line) (line_feed ∷ []) (lines_text lines))
    ∙ cut_line (spelled line) (lines_text lines) (spelled_free line (spellable story line shape short all.0.is))
    ∙ ap (λ (l : List FileLine). ended_line (spelled line) ∷ l) (rest_lines story (Some line) lines shape short all.1)

regrouped : (a b c rest end : List ℕ) → ((a ++ end) ++ ((b ++ end) ++ ((c ++ end) ++ []))) ++ rest ≡ a ++ (end ++ (b ++ (end ++ (c ++ (end ++ rest)))))
regrouped a b c rest end = simp (append_assoc, append-nil)

text_lines : (story : Story) (lines : List MapLine) → IsShape story.r.shape → story.r.cycles < 2 ^ 32 → story.r.instructions < 2 ^ 32 → AreAll story lines
    → lines_of (text_of story lines)
    ≡ ended_line title ∷ ended_line (cycles_line story.r.cycles) ∷ ended_line (instructions_line story.r.instructions) ∷ map (λ line. ended_line (spelled line)) lines
text_lines story lines shape short few all =
    let title_free : HasNoFeed title = no_feed_title in
    let c_free : HasNoFeed (cycles_line story.r.cycles) = both_free (codes "cycles ") (decimal story.r.cycles) cycles_free (number_free story.r.cycles (omega arith)) in
    let i_free : HasNoFeed (instructions_line story.r.instructions) =
    both_free (codes "instructions ") (decimal story.r.instructions) instructions_free (number_free story.r.instructions (omega arith)) in
    ap lines_of (regrouped title (cycles_line story.r.cycles) (instructions_line story.r.instructions) (lines_text lines) (line_feed ∷ []))
    ∙ cut_line title (cycles_line story.r.cycles ++ line_feed ∷ (instructions_line story.r.instructions ++ line_feed ∷ lines_text lines)) title_free
    ∙ ap (λ (l : List FileLine). ended_line title ∷ l)
    (cut_line (cycles_line story.r.cycles) (instructions_line story.r.instructions ++ line_feed ∷ lines_text lines) c_free)
    ∙ ap (λ (l : List FileLine). ended_line title ∷ ended_line (cycles_line story.r.cycles) ∷ l) (cut_line (instructions_line story.r.instructions) (lines_text lines) i_free)
    ∙ ap (λ (l : List FileLine). ended_line title ∷ ended_line (cycles_line story.r.cycles) ∷ ended_line (instructions_line story.r.instructions) ∷ l)
    (rest_lines story None lines shape short all)

pub own_map : (story : Story) (lines : List MapLine) → IsShape story.r.shape → story.r.cycles < 2 ^ 32 → story.r.instructions < 2 ^ 32 → AreAll story lines
    → IsAccepted story (lines_of (text_of story lines)) (sum_by pairs_of lines)
own_map story lines shape short few all =
    let rest = all_passed story (behind (behind (behind start None) None) None) lines shape short (omega arith) all in
    let sum = rest.counted in
    record {
      reached = rest.end;
      passed =
          subst (λ (l : List FileLine). ArePassed story start l rest.end) (sym (text_lines story lines shape short few all)) (
            behind start None,
            title_pass story,
            (
              behind (behind start None) None,
              cycles_pass story short,
              (behind (behind (behind start None) None) None, instructions_pass story few, rest.passed),
            ),
          );
      whole = rest.whole;
      counted = omega (arith, sum);
    }
