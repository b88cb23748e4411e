-- The first event of a log that passes a test: by the cycles of the events that pass, and where one of two tests is passed.
use Rattle.std.proofs.Common.{◌≡◌, ℕ, zero, suc, ◌+◌, ◌<◌, Bool, true, false, cond, List, [], ◌∷◌, ◌++◌, length, get_or, take, refl, sym, ◌∙◌, ap, arith}
use Rattle.std.proofs.lemmas.List.{append-nil, map-append}
use Rattle.std.proofs.lemmas.List.Elements.{filter_more}
use Rattle.std.specs.Prelude.{Option, Some, None, ◌&&◌, ◌||◌, nat_le, nat_lt, map}
use Rattle.std.specs.List.{All, AllPairs, find, filter}
use Rattle.std.specs.Option.{option_map, IfSome}
use Rattle.std.proofs.lemmas.Bool.Decides.{nat_tests}
use Rattle.wb_cache.specs.declared.event.CacheEvent.{CacheEvent}
use Rattle.event_log.specs.Cycles.{IsRising, first_from}
use Rattle.event_log.specs.Events.{first_event, cycles_of}

pub pairs-tail : {X : Type 0} (R : X → X → Type 0) (x : X) (xs : List X) → AllPairs R (x ∷ xs) → AllPairs R xs
pairs-tail R x xs h i j d l m = h (suc i) (suc j) d (omega arith) (omega arith)

pub pairs-head : {X : Type 0} (R : X → X → Type 0) (x : X) (xs : List X) → AllPairs R (x ∷ xs) → All (R x) xs
pairs-head R x xs h k d l = h 0 (suc k) d (omega arith) (omega arith)

pub pairs-cons : {X : Type 0} (R : X → X → Type 0) (x : X) (xs : List X) → All (R x) xs → AllPairs R xs → AllPairs R (x ∷ xs)
pairs-cons R x xs a h i zero d l m = absurd (omega arith)
pairs-cons R x xs a h zero (suc j) d l m = a j d (omega arith)
pairs-cons R x xs a h (suc i) (suc j) d l m = h i j d (omega arith) (omega arith)

-- what is shown of the elements that pass a test, where the rising number stays the same
module _ {X Y : Type 0} (n : X → ℕ) (m : Y → ℕ) (g : X → Y) (same : (x : X) → m (g x) ≡ n x) (test : X → Bool) where
  all-cons : (k : ℕ) (x : X) (ys : List Y) → k < n x → All (λ y. k < m y) ys → All (λ y. k < m y) (g x ∷ ys)
  all-cons k x ys b rest zero d l = let e : m (g x) ≡ n x = same x in omega arith
  all-cons k x ys b rest (suc i) d l = rest i d (omega arith)

  above-more : (k : ℕ) (x : X) (ys : List X) (b : Bool) → k < n x → All (λ y. k < m y) (map g ys) → All (λ y. k < m y) (map g (cond b (x ∷ ys) ys))
  above-more k x ys true here rest = all-cons k x (map g ys) here rest
  above-more k x ys false here rest = rest

  pub above-shown : (k : ℕ) (xs : List X) → All (λ x. k < n x) xs → All (λ y. k < m y) (map g (filter test xs))
  above-shown k [] h = λ i d l. absurd (omega arith)
  above-shown k (x ∷ xs) h = above-more k x (filter test xs) (test x) (h 0 x (omega arith)) (above-shown k xs (λ i d l. h (suc i) d (omega arith)))

  rising-more : (x : X) (ys : List X) (b : Bool) → All (λ y. n x < m y) (map g ys) → AllPairs (λ a b. m a < m b) (map g ys) →
      AllPairs (λ a b. m a < m b) (map g (cond b (x ∷ ys) ys))
  rising-more x ys true above rest = pairs-cons (λ a b. m a < m b) (g x) (map g ys)
      (λ i d l. let e : m (g x) ≡ n x = same x in let b : n x < m (get_or (map g ys) i d) = above i d l in omega arith) rest
  rising-more x ys false above rest = rest

  pub rising-shown : (xs : List X) → AllPairs (λ a b. n a < n b) xs → AllPairs (λ a b. m a < m b) (map g (filter test xs))
  rising-shown [] h = λ i j d l p. absurd (omega arith)
  rising-shown (x ∷ xs) h = rising-more x (filter test xs) (test x) (above-shown (n x) xs (pairs-head (λ a b. n a < n b) x xs h))
      (rising-shown xs (pairs-tail (λ a b. n a < n b) x xs h))

-- the first that passes among what is shown of the elements that pass another test
find-more : {X Y : Type 0} (g : X → Y) (p : Y → Bool) (x : X) (ys : List X) (r : Option X) (b c : Bool) → p (g x) ≡ c → find p (map g ys) ≡ option_map g r →
    find p (map g (cond b (x ∷ ys) ys)) ≡ option_map g (cond (p (g x) && b) (Some x) r)
find-more g p x ys r true true e rest = rw e refl
find-more g p x ys r true false e rest = rw e rest
find-more g p x ys r false true e rest = rw e rest
find-more g p x ys r false false e rest = rw e rest

pub find-shown : {X Y : Type 0} (g : X → Y) (p : Y → Bool) (q : X → Bool) (xs : List X) →
    find p (map g (filter q xs)) ≡ option_map g (find (λ x. p (g x) && q x) xs)
find-shown g p q [] = refl
find-shown g p q (x ∷ xs) = find-more g p x (filter q xs) (find (λ x. p (g x) && q x) xs) (q x) (p (g x)) refl (find-shown g p q xs)

pub first-cycles : (test : CacheEvent → Bool) (t : ℕ) (es : List CacheEvent) →
    first_from t (cycles_of test es) ≡ option_map (λ e. e.cycle) (first_event test t es)
unfolding first_from cycles_of first_event
first-cycles test t es = find-shown (λ (e : CacheEvent). e.cycle) (λ c. nat_le t c) test es

pub rising-cycles : (test : CacheEvent → Bool) (es : List CacheEvent) → AllPairs (λ d e. d.cycle < e.cycle) es → IsRising (cycles_of test es)
unfolding cycles_of
rising-cycles test es h = rising-shown (λ (e : CacheEvent). e.cycle) (λ c. c) (λ e. e.cycle) (λ e. refl) test es h

-- what holds of all events holds of the first that passes a test
all-more : (P : CacheEvent → Type 0) (e : CacheEvent) (r : Option CacheEvent) (b : Bool) → P e → IfSome r P → IfSome (cond b (Some e) r) P
all-more P e r true here rest = here
all-more P e r false here rest = rest

pub first-all : (P : CacheEvent → Type 0) (test : CacheEvent → Bool) (t : ℕ) (es : List CacheEvent) → All P es → IfSome (first_event test t es) P
unfolding first_event
first-all P test t [] h = tt
first-all P test t (e ∷ es) h =
    all-more P e (first_event test t es) (nat_le t e.cycle && test e) (h 0 e (omega arith)) (first-all P test t es (λ i d l. h (suc i) d (omega arith)))

-- of two events the earlier one, and the first of them where they come in one cycle
abbrev pub earlier : Option CacheEvent → Option CacheEvent → Option CacheEvent
earlier None b = b
earlier (Some a) None = Some a
earlier (Some a) (Some b) = cond (nat_lt b.cycle a.cycle) (Some b) (Some a)

earlier-before : (e : CacheEvent) (b : Option CacheEvent) → IfSome b (λ d. e.cycle < d.cycle) → earlier (Some e) b ≡ Some e
earlier-before e None h = refl
earlier-before e (Some d) h = let f : nat_lt d.cycle e.cycle ≡ false = grind (arith, nat_tests) in rw f refl

earlier-after : (e : CacheEvent) (a : Option CacheEvent) → IfSome a (λ d. e.cycle < d.cycle) → earlier a (Some e) ≡ Some e
earlier-after e None h = refl
earlier-after e (Some d) h = let f : nat_lt e.cycle d.cycle ≡ true = grind (arith, nat_tests) in rw f refl

earlier-same : (e : CacheEvent) → earlier (Some e) (Some e) ≡ Some e
earlier-same e = let f : nat_lt e.cycle e.cycle ≡ false = grind (arith, nat_tests) in rw f refl

either-more : (e : CacheEvent) (ps qs r : Option CacheEvent) (a b c : Bool) → IfSome ps (λ d. e.cycle < d.cycle) → IfSome qs (λ d. e.cycle < d.cycle) →
    r ≡ earlier ps qs → cond (a && (b || c)) (Some e) r ≡ earlier (cond (a && b) (Some e) ps) (cond (a && c) (Some e) qs)
either-more e ps qs r false b c p q rest = rest
either-more e ps qs r true false false p q rest = rest
either-more e ps qs r true true true p q rest = sym (earlier-same e)
either-more e ps qs r true true false p q rest = sym (earlier-before e qs q)
either-more e ps qs r true false true p q rest = sym (earlier-after e ps p)

-- the first event that passes one of two tests is the earlier of the first that passes the one and the first that passes the other
pub first-either : (p q : CacheEvent → Bool) (t : ℕ) (es : List CacheEvent) → AllPairs (λ d e. d.cycle < e.cycle) es →
    first_event (λ e. p e || q e) t es ≡ earlier (first_event p t es) (first_event q t es)
unfolding first_event
first-either p q t [] h = refl
first-either p q t (e ∷ es) h =
    let later = pairs-head (λ (d e : CacheEvent). d.cycle < e.cycle) e es h in
    either-more e (first_event p t es) (first_event q t es) (first_event (λ e. p e || q e) t es) (nat_le t e.cycle) (p e) (q e)
    (first-all (λ d. e.cycle < d.cycle) p t es later) (first-all (λ d. e.cycle < d.cycle) q t es later)
    (first-either p q t es (pairs-tail (λ d e. d.cycle < e.cycle) e es h))

-- one element more, where it passes the test
shown-last : {X Y : Type 0} (g : X → Y) (x : X) (ys : List X) (b : Bool) → map g (ys ++ cond b (x ∷ []) []) ≡ cond b (map g ys ++ g x ∷ []) (map g ys)
shown-last g x ys true = map-append g ys (x ∷ [])
shown-last g x ys false = ap (map g) (append-nil ys)

pub shown-more : {X Y : Type 0} (g : X → Y) (test : X → Bool) (xs : List X) (n : ℕ) (x : X) → n < length xs → x ≡ get_or xs n x →
    map g (filter test (take (n + 1) xs)) ≡ cond (test x) (map g (filter test (take n xs)) ++ g x ∷ []) (map g (filter test (take n xs)))
shown-more g test xs n x l e =
    ap (map g) (filter_more test xs n x l) ∙ rw (sym e) (shown-last g x (filter test (take n xs)) (test x))

pub cycles-more : (test : CacheEvent → Bool) (es : List CacheEvent) (n : ℕ) (e : CacheEvent) → n < length es → e ≡ get_or es n e →
    cycles_of test (take (n + 1) es) ≡ cond (test e) (cycles_of test (take n es) ++ e.cycle ∷ []) (cycles_of test (take n es))
unfolding cycles_of
cycles-more test es n e l h = shown-more (λ (e : CacheEvent). e.cycle) test es n e l h

-- the first event that passes a test passes it
passes-more : (test : CacheEvent → Bool) (e : CacheEvent) (r : Option CacheEvent) (a b : Bool) → test e ≡ b → IfSome r (λ e. test e ≡ true) →
    IfSome (cond (a && b) (Some e) r) (λ e. test e ≡ true)
passes-more test e r true true h rest = h
passes-more test e r true false h rest = rest
passes-more test e r false b h rest = rest

pub first-passes : (test : CacheEvent → Bool) (t : ℕ) (es : List CacheEvent) → IfSome (first_event test t es) (λ e. test e ≡ true)
unfolding first_event
first-passes test t [] = tt
first-passes test t (e ∷ es) = passes-more test e (first_event test t es) (nat_le t e.cycle) (test e) refl (first-passes test t es)

-- one event more
abbrev pub or_event : Option CacheEvent → Bool → CacheEvent → Option CacheEvent
or_event (Some a) b e = Some a
or_event None b e = cond b (Some e) None

push-more : (a : CacheEvent) (r q : Option CacheEvent) (b c : Bool) (e : CacheEvent) → r ≡ or_event q c e
    → cond b (Some a) r ≡ or_event (cond b (Some a) q) c e
push-more a r q true c e h = refl
push-more a r q false c e h = h

pub first-push : (test : CacheEvent → Bool) (t : ℕ) (es : List CacheEvent) (e : CacheEvent) →
    first_event test t (es ++ e ∷ []) ≡ or_event (first_event test t es) (nat_le t e.cycle && test e) e
unfolding first_event
first-push test t [] e = refl
first-push test t (a ∷ es) e =
    push-more a (first_event test t (es ++ e ∷ [])) (first_event test t es) (nat_le t a.cycle && test a) (nat_le t e.cycle && test e) e
    (first-push test t es e)
