-- Lines of the map that are written one after the other.
use Rattle.std.proofs.Common.{◌≡◌, ℕ, ◌+◌, ◌-◌, ◌^◌, ◌<◌, ◌≤◌, List, [], ◌∷◌, ◌++◌, Option, None, Some, IfSome, refl, sym, ap, ◌∙◌, subst, append_assoc, append-nil, arith}
use Rattle.std.specs.Prelude.{Result, Ok, Err, OnErr, OnOk}
use Rattle.avf_base.specs.Buffers.{GrowsButFor}
use Rattle.avf_base.specs.Moves.{Grows, GrowsByFront}
use Rattle.avf_base.specs.declared.failure.Failed.{Failed}
use Rattle.avf_base.proofs.Buffering.{But-front, But-more, But-rest, But-rest-front, Front-of, passed_all}
use Rattle.bit_field.specs.Shapes.{IsShape}
use Rattle.ace_class.proofs.Sizes.{bits_in_most}
use Rattle.ace_rules.specs.Notes.{Story}
use Rattle.class_map.specs.Bounds.{IsFurther, furthest, reach}
use Rattle.class_map.specs.Lines.{pairs_of}
use Rattle.class_map.specs.Maps.{AreAll, AreAllNext, AreFirst, AreNext, IsNext, IsNextLine}
use Rattle.class_map.specs.Texts.{ended, head_text, lines_text, spelled}
use Rattle.class_map.specs.Written.{IsFrontWritten, IsMapWritten, IsOnItsWay, IsTextWritten, text_of}
use Rattle.class_map.specs.declared.map_line.MapLine.{MapLine}
use Rattle.class_map.proofs.Reaches.{reach-most, reaches}

-- the last of the lines behind one before
abbrev pub last_of : Option MapLine → List MapLine → Option MapLine
last_of before [] = before
last_of before (line ∷ lines) = last_of (Some line) lines

next_more : (story : Story) (before : Option MapLine) (lines : List MapLine) (line : MapLine) → AreNext story before lines → IsNextLine story (last_of before lines) line
    → AreNext story before (lines ++ line ∷ [])
next_more story before [] line h next = (next, tt)
next_more story before (l ∷ lines) line h next = (h.0, next_more story (Some l) lines line h.1 next)

all_next : (story : Story) (before : Option MapLine) (lines : List MapLine) → AreNext story before lines → IsNext story (last_of before lines) None
    → AreAllNext story before lines
all_next story before [] h none = none
all_next story before (l ∷ lines) h none = (h.0, all_next story (Some l) lines h.1 none)

last_more : (before : Option MapLine) (lines : List MapLine) (line : MapLine) → last_of before (lines ++ line ∷ []) ≡ Some line
last_more before [] line = refl
last_more before (l ∷ lines) line = last_more (Some l) lines line

lines_more : (lines : List MapLine) (line : MapLine) → lines_text (lines ++ line ∷ []) ≡ lines_text lines ++ ended (spelled line)
lines_more [] line = append-nil (ended (spelled line))
lines_more (l ∷ lines) line =
    ap (λ (t : List ℕ). ended (spelled l) ++ t) (lines_more lines line) ∙ sym (append_assoc (ended (spelled l)) (lines_text lines) (ended (spelled line)))

-- the text of one more line
text_more : (story : Story) (lines : List MapLine) (line : MapLine) → text_of story (lines ++ line ∷ []) ≡ text_of story lines ++ ended (spelled line)
text_more story lines line =
    ap (λ (t : List ℕ). head_text story.r.cycles story.r.instructions ++ t) (lines_more lines line)
    ∙ sym (append_assoc (head_text story.r.cycles story.r.instructions) (lines_text lines) (ended (spelled line)))

-- ---- what was taken so far

-- The first lines are on their way, up to this one.
pub record IsSoFar (story : Story) (old new : Option (List ℕ)) (held : List ℕ) (last : Option MapLine) (so_far : Result (Unit {0}) Failed) : Type 0 where
  pub lines : List MapLine
  pub first : AreFirst story lines
  pub last_is : last ≡ last_of None lines
  pub text : IsOnItsWay old new held (text_of story lines) so_far

head_way : (old new : Option (List ℕ)) (text : List ℕ) (so_far : Result (Unit {0}) Failed) → OnOk so_far (Grows old new text)
    → OnErr so_far (GrowsByFront old new text) → IsOnItsWay old new [] text so_far
head_way old new text (Ok done) h k = passed_all old new text h
head_way old new text (Err failed) h k = k

pub headed : (story : Story) (old new : Option (List ℕ)) (held : List ℕ) (so_far : Result (Unit {0}) Failed) → held ≡ []
    → OnOk so_far (Grows old new (head_text story.r.cycles story.r.instructions))
    → OnErr so_far (GrowsByFront old new (head_text story.r.cycles story.r.instructions)) → IsSoFar story old new held None so_far
headed story old new held so_far none h k =
    let head = head_text story.r.cycles story.r.instructions in
    let way : IsOnItsWay old new held head so_far = subst (λ (l : List ℕ). IsOnItsWay old new l head so_far) (sym none) (head_way old new head so_far h k) in
    record {
      lines = [];
      first = tt;
      last_is = refl;
      text = subst (λ (t : List ℕ). IsOnItsWay old new held t so_far) (sym (append-nil head)) way;
    }

pub one_more : (story : Story) (old new newer : Option (List ℕ)) (held end : List ℕ) (last : Option MapLine) (line : MapLine)
    (so_far then : Result (Unit {0}) Failed) → IsSoFar story old new held last so_far → IsNextLine story last line
    → ((text : List ℕ) → IsOnItsWay old new held text so_far → IsOnItsWay old newer end (text ++ ended (spelled line)) then)
    → IsSoFar story old newer end (Some line) then
one_more story old new newer held end last line so_far then so next goes = record {
  lines = so.lines ++ line ∷ [];
  first = next_more story None so.lines line so.first (subst (λ (l : Option MapLine). IsNextLine story l line) so.last_is next);
  last_is = sym (last_more None so.lines line);
  text =
      subst (λ (t : List ℕ). IsOnItsWay old newer end t then) (sym (text_more story so.lines line)) (goes (text_of story so.lines) so.text);
}

-- ---- a piece more, and the end

-- of a piece that was added
pub more_way : (a b c : Option (List ℕ)) (held end text piece : List ℕ) (result : Result (Unit {0}) Failed) → GrowsButFor a b held text
    → OnOk result (GrowsButFor b c end (held ++ piece)) → OnErr result (GrowsByFront b c (held ++ piece)) → IsOnItsWay a c end (text ++ piece) result
more_way a b c held end text piece (Ok done) so h k = But-more a b c held text end piece so h
more_way a b c held end text piece (Err failed) so h k = But-front a b c held text piece so k

-- of one that wasn't
pub failed_way : (a b : Option (List ℕ)) (text piece : List ℕ) → GrowsByFront a b text → GrowsByFront a b (text ++ piece)
failed_way a b text piece h = Front-of a b text piece h

pub end_way : (a b c : Option (List ℕ)) (held text : List ℕ) (result : Result (Unit {0}) Failed) → GrowsButFor a b held text
    → OnOk result (Grows b c held) → OnErr result (GrowsByFront b c held) → IsTextWritten a c text result
end_way a b c held text (Ok done) so h k = But-rest a b c held text so h
end_way a b c held text (Err failed) so h k = But-rest-front a b c held text so k

module _ (story : Story) (old new newer : Option (List ℕ)) (held : List ℕ) (last : Option MapLine) (so_far : Result (Unit {0}) Failed)
    (so : IsSoFar story old new held last so_far) (none : IsNext story last None) where
  all_so_far : AreAll story so.lines
  all_so_far = all_next story None so.lines so.first (subst (λ (l : Option MapLine). IsNext story l None) so.last_is none)

  pub written : (result : Result (Unit {0}) Failed) → ((text : List ℕ) → IsOnItsWay old new held text so_far → IsTextWritten old newer text result)
      → OnOk result (IsMapWritten story old newer)
  written (Ok done) ends = record { lines = so.lines; all = all_so_far; grows = ends (text_of story so.lines) so.text }
  written (Err failed) ends = tt

  pub unwritten : (result : Result (Unit {0}) Failed) → ((text : List ℕ) → IsOnItsWay old new held text so_far → IsTextWritten old newer text result)
      → OnErr result (IsFrontWritten story old newer)
  unwritten (Ok done) ends = tt
  unwritten (Err failed) ends = record { lines = so.lines; all = all_so_far; grows = ends (text_of story so.lines) so.text }

-- ---- the lines end

-- a line of the map, whose numbers are small
pub is_further : (story : Story) (before : Option MapLine) (line : MapLine) → IsShape story.r.shape → IsNextLine story before line → line.to < 2 ^ 32
    → IsFurther before line
is_further story before line shape next to = record {
  follows = next.behind;
  some = next.is.some;
  bit = (let most = bits_in_most line.place.structure story.r.shape shape in let inside = next.is.place in omega (arith, most, inside));
  to = to;
}

pub reaches_on : (story : Story) (before : Option MapLine) (line : MapLine) → IsShape story.r.shape → IsNextLine story before line → line.to < 2 ^ 32
    → IfSome before (λ l. l.place.bit < 2 ^ 17) → IfSome before (λ l. l.to < 2 ^ 32) → furthest - reach (Some line) < furthest - reach before
reaches_on story before line shape next to bits tos =
    let far = is_further story before line shape next to in
    let on : reach before + pairs_of line ≤ reach (Some line) = reaches before line far bits tos in
    let most : reach (Some line) < furthest = reach-most (Some line) far.bit far.to in
    let some : line.from < line.to = next.is.some in
    omega (arith, on, most, some)
