-- A text of which the end is held, piece by piece.
use Rattle.std.proofs.Common.{◌≡◌, ℕ, ◌+◌, List, [], ◌++◌, length, take, Option, refl, sym, ap, ◌∙◌, subst, append_assoc, append-nil, arith}
use Rattle.std.specs.Prelude.{Result, Ok, Err, OnErr}
use Rattle.std.proofs.Math.ListN.{length-append}
use Rattle.std.proofs.Math.Seq.{take-append-add}
use Rattle.std.proofs.lemmas.List.{take-append-le}
use Rattle.avf_base.specs.Buffers.{GrowsButFor}
use Rattle.avf_base.specs.Moves.{Grows, GrowsByFront}
use Rattle.avf_base.proofs.Growing.{Grows-more, Grows-nothing}

-- all of it is held
pub held : (a : Option (List ℕ)) (text : List ℕ) → GrowsButFor a a text text
held a text = record { front = []; cut = refl; grows = Grows-nothing a }

-- none of it is held
pub passed_all : (a b : Option (List ℕ)) (text : List ℕ) → Grows a b text → GrowsButFor a b [] text
passed_all a b text h = record { front = text; cut = sym (append-nil text); grows = h }

-- what was held is taken, and the piece is held
pub flushed : (a b : Option (List ℕ)) (old piece : List ℕ) → Grows a b old → GrowsButFor a b piece (old ++ piece)
flushed a b old piece h = record { front = old; cut = refl; grows = h }

-- both are taken
pub passed : (a b c : Option (List ℕ)) (old piece : List ℕ) → Grows a b old → Grows b c piece → GrowsButFor a c [] (old ++ piece)
passed a b c old piece h k = passed_all a c (old ++ piece) (Grows-more a b c old piece h k)

-- a front of one text and all of another before it
pub Front-more : (a b c : Option (List ℕ)) (xs ys : List ℕ) → Grows a b xs → GrowsByFront b c ys → GrowsByFront a c (xs ++ ys)
Front-more a b c xs ys p q = (
  length xs + q.0,
  (let e : length (xs ++ ys) ≡ length xs + length ys = length-append xs ys in let l = q.1 in omega (arith, e, l)),
  subst (Grows a c) (sym (take-append-add xs ys q.0)) (Grows-more a b c xs (take q.0 ys) p q.2),
)

pub Err-more : {T E : Type 0} (r : Result T E) (a b c : Option (List ℕ)) (xs ys : List ℕ) → Grows a b xs → OnErr r (GrowsByFront b c ys)
    → OnErr r (GrowsByFront a c (xs ++ ys))
Err-more (Ok x) a b c xs ys h k = tt
Err-more (Err e) a b c xs ys h k = Front-more a b c xs ys h k

-- a front of a text is one of a longer text
pub Front-of : (a b : Option (List ℕ)) (xs ys : List ℕ) → GrowsByFront a b xs → GrowsByFront a b (xs ++ ys)
Front-of a b xs ys q = (
  q.0,
  (let e : length (xs ++ ys) ≡ length xs + length ys = length-append xs ys in let l = q.1 in omega (arith, e, l)),
  subst (Grows a b) (sym (take-append-le q.0 xs ys q.1)) q.2,
)

-- ---- more and more of a text

-- a piece more
pub But-more : (a b c : Option (List ℕ)) (held text new piece : List ℕ) → GrowsButFor a b held text → GrowsButFor b c new (held ++ piece)
    → GrowsButFor a c new (text ++ piece)
But-more a b c held text new piece h k = record {
  front = h.front ++ k.front;
  cut =
      ap (λ t. t ++ piece) h.cut ∙ append_assoc h.front held piece ∙ ap (λ t. h.front ++ t) k.cut ∙ sym (append_assoc h.front k.front new);
  grows = Grows-more a b c h.front k.front h.grows k.grows;
}

-- a front of the rest
pub But-front : (a b c : Option (List ℕ)) (held text piece : List ℕ) → GrowsButFor a b held text → GrowsByFront b c (held ++ piece)
    → GrowsByFront a c (text ++ piece)
But-front a b c held text piece h k =
    subst (GrowsByFront a c) (sym (ap (λ t. t ++ piece) h.cut ∙ append_assoc h.front held piece)) (Front-more a b c h.front (held ++ piece) h.grows k)

-- the rest
pub But-rest : (a b c : Option (List ℕ)) (held text : List ℕ) → GrowsButFor a b held text → Grows b c held → Grows a c text
But-rest a b c held text h k = subst (Grows a c) (sym h.cut) (Grows-more a b c h.front held h.grows k)

pub But-rest-front : (a b c : Option (List ℕ)) (held text : List ℕ) → GrowsButFor a b held text → GrowsByFront b c held → GrowsByFront a c text
But-rest-front a b c held text h k = subst (GrowsByFront a c) (sym h.cut) (Front-more a b c h.front held h.grows k)

pub ruleset lemmas = (held, flushed, passed, Err-more, Front-of)
