-- A file that is read piece by piece.
use Rattle.std.proofs.Common.{◌≡◌, ℕ, ◌+◌, ◌<◌, ◌≤◌, List, [], ◌++◌, length, take, drop, Option, None, Some, IfSome, refl, sym, ap, ◌∙◌, append_assoc}
use Rattle.std.proofs.Common.{append-nil, arith, length-append}
use Rattle.std.proofs.lemmas.List.{length-take-le, drop_all}
use Rattle.std.specs.Prelude.{Ok}
use Rattle.avf_base.specs.Moves.{Reads}
use Rattle.avf_base.specs.Fronts.{IsFront}
use Rattle.avf_base.specs.declared.failure.Failed.{Failed}

pub front_more : (known : Option (List ℕ)) (bytes buf : List ℕ) (n : ℕ) → IsFront known bytes → Reads {E = Failed} known (length bytes) (Ok n) buf
    → n ≤ length buf → IsFront known (bytes ++ take n buf)
front_more None bytes buf n p q h = tt
front_more (Some contents) bytes buf n p q h =
    let e : length (bytes ++ take n buf) ≡ length bytes + n = length-append bytes (take n buf) ∙ ap (λ k. length bytes + k) (length-take-le n buf h) in
    p ∙ ap (λ l. bytes ++ l) q.bytes ∙ sym (append_assoc bytes (take n buf) (drop (length bytes + n) contents))
    ∙ ap (λ k. (bytes ++ take n buf) ++ drop k contents) (sym e)

pub ended : (known : Option (List ℕ)) (bytes buf : List ℕ) → IsFront known bytes → Reads {E = Failed} known (length bytes) (Ok 0) buf → 0 < length buf
    → IfSome known (λ contents. contents ≡ bytes)
ended None bytes buf p q h = tt
ended (Some contents) bytes buf p q h =
    p ∙ ap (λ l. bytes ++ l) (drop_all (length bytes) contents (q.ended refl h)) ∙ append-nil bytes

pub starts : (known : Option (List ℕ)) → IsFront known []
starts None = tt
starts (Some contents) = refl

pub all_read : (known : Option (List ℕ)) (bytes : List ℕ) → IfSome known (λ contents. contents ≡ bytes) → IfSome known (λ contents. bytes ≡ contents)
all_read None bytes h = tt
all_read (Some contents) bytes h = sym h

pub too_long : (known : Option (List ℕ)) (bytes : List ℕ) (limit : ℕ) → IsFront known bytes → limit < length bytes
    → IfSome known (λ contents. limit < length contents)
too_long None bytes limit p h = tt
too_long (Some contents) bytes limit p h =
    let e : length contents ≡ length bytes + length (drop (length bytes) contents) =
    ap length p ∙ length-append bytes (drop (length bytes) contents) in omega arith

pub ruleset lemmas = (starts, all_read, too_long)
