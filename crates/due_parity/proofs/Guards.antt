-- What tests on numbers say.
use Rattle.std.proofs.Common.{◌≡◌, ◌≢◌, ℕ, Bool, true, false, refl}
use Rattle.std.specs.Prelude.{◌==◌, ◌&&◌, ◌||◌}
use Rattle.std.proofs.lemmas.Bool.{eqb-true, eq-eqb}

pub differ : (m n : ℕ) → (m == n) ≡ false → m ≢ n
differ m n h p = let e : (m == n) ≡ true = eq-eqb m n p in cc

pub either-first : (a b : Bool) → (a || b) ≡ false → a ≡ false
either-first false b h = refl
either-first true b h = absurd cc

pub either-second : (a b : Bool) → (a || b) ≡ false → b ≡ false
either-second false b h = h
either-second true b h = absurd cc

-- both of two tests hold, or not both
pub both-hold : (m n : ℕ) (b : Bool) → (m == n && b) ≡ true → (m ≡ n) × (b ≡ true)
both-hold m n b h = go (m == n) b refl refl h
  where
    go : (a c : Bool) → (m == n) ≡ a → b ≡ c → (a && c) ≡ true → (m ≡ n) × (b ≡ true)
    go true true e f h = (eqb-true m n e, f)
    go true false e f h = absurd cc
    go false c e f h = absurd cc

pub both-fail : (m n : ℕ) (b : Bool) → (m == n && b) ≡ false → m ≡ n → b ≢ true
both-fail m n b h p q = let e : (m == n) ≡ true = eq-eqb m n p in clash (m == n) b e q h
  where
    clash : (a c : Bool) → a ≡ true → c ≡ true → (a && c) ≡ false → ⊥
    clash true true e f h = cc
    clash true false e f h = cc
    clash false c e f h = cc
