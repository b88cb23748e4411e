-- What is kept on the way back through a run, instruction by instruction.
use Rattle.std.proofs.Common.{◌≡◌, ℕ, zero, suc, ◌+◌, ◌<◌, Bool, true, false, cond, List, [], ◌∷◌, ◌++◌, length, drop, get_or, refl, sym, ◌∙◌, ap, arith}
use Rattle.std.specs.Prelude.{Option, Some, None, slice_get, replicate}
use Rattle.std.specs.Option.{ForSome}
use Rattle.std.proofs.lemmas.List.{reverse-append, drop_more, drop_all, length-replicate, get_or-replicate}
use Rattle.std.proofs.lemmas.Option.{slice_get_within, get_or_from_slice_get}
use Rattle.need_pass.specs.Links.{writes, loads, stores}
use Rattle.rv_isa.specs.declared.effect.Retired.{Retired}
use Rattle.dead_class.specs.Classes.{reads, some_needed, is_nop, may_die, register_readers, byte_readers, bytes_readers, by_readers, stored_class, value_class, class_of, classes_of}
use Rattle.dead_class.specs.Readers.{readers_of, both, reader, class_by, of_register, of_byte, of_bytes, stored_by, value_by, class_from, IsKept}
use Rattle.dead_class.specs.declared.class.DeadClass.{DeadClass}
use Rattle.dead_class.specs.declared.class.DeadClass.TheVariants.{Needed, Nop, FddReg, TddReg, FddMem, TddMem}
use Rattle.dead_class.specs.declared.readers.Readers.{Readers}
use Rattle.dead_class.specs.declared.readers.Readers.TheVariants.{Nobody, DeadOnly, SomeNeeded}

-- ---- readers of lists

readers_none : readers_of [] ≡ Nobody
unfolding readers_of
readers_none = refl

readers_one : (class : DeadClass) → readers_of (class ∷ []) ≡ reader class
unfolding readers_of
readers_one Needed = refl
readers_one _ = refl

readers_more : (class : DeadClass) (classes : List DeadClass) → readers_of (class ∷ classes) ≡ both (reader class) (readers_of classes)
unfolding readers_of
readers_more Needed classes = refl
readers_more _ [] = refl
readers_more _ (c ∷ classes) = elim (some_needed (c ∷ classes)) as (λ t. cond t SomeNeeded DeadOnly ≡ both DeadOnly (cond t SomeNeeded DeadOnly)) [ true ↦ refl | false ↦ refl ]

both_assoc : (x y z : Readers) → both x (both y z) ≡ both (both x y) z
both_assoc Nobody y z = refl
both_assoc SomeNeeded y z = refl
both_assoc DeadOnly SomeNeeded z = refl
both_assoc DeadOnly Nobody z = refl
both_assoc DeadOnly DeadOnly SomeNeeded = refl
both_assoc DeadOnly DeadOnly Nobody = refl
both_assoc DeadOnly DeadOnly DeadOnly = refl

readers-append : (xs ys : List DeadClass) → readers_of (xs ++ ys) ≡ both (readers_of xs) (readers_of ys)
readers-append [] ys = rw readers_none refl
readers-append (x ∷ xs) ys =
    readers_more x (xs ++ ys) ∙ ap (both (reader x)) (readers-append xs ys) ∙ both_assoc (reader x) (readers_of xs) (readers_of ys) ∙ ap (λ v. both v (readers_of ys)) (sym (readers_more x xs))

by_readers_is : (unread dead : DeadClass) (classes : List DeadClass) → class_by unread dead (readers_of classes) ≡ by_readers unread dead classes
unfolding readers_of by_readers
by_readers_is unread dead [] = refl
by_readers_is unread dead (c ∷ classes) = elim (some_needed (c ∷ classes)) as (λ t. class_by unread dead (cond t SomeNeeded DeadOnly) ≡ cond t Needed dead) [ true ↦ refl | false ↦ refl ]

-- one that reads it or doesn't, before those behind, unless it overwrites it
readers_step : (reads writes : Bool) (class : DeadClass) (classes : List DeadClass) → both (cond reads (reader class) Nobody) (cond writes Nobody (readers_of classes)) ≡ readers_of (cond reads (class ∷ []) [] ++ cond writes [] classes)
readers_step true true class classes = ap (λ x. both x Nobody) (sym (readers_one class)) ∙ ap (both (readers_of (class ∷ []))) (sym readers_none) ∙ sym (readers-append (class ∷ []) [])
readers_step true false class classes = ap (λ x. both x (readers_of classes)) (sym (readers_one class)) ∙ sym (readers-append (class ∷ []) classes)
readers_step false true class classes = sym readers_none
readers_step false false class classes = refl

register_step : (r : ℕ) (i : Retired) (later : List Retired) (class : DeadClass) (classes : List DeadClass) → both (cond (reads i r) (reader class) Nobody) (cond (writes i r) Nobody (readers_of (register_readers r later classes))) ≡ readers_of (register_readers r (i ∷ later) (class ∷ classes))
unfolding register_readers
register_step r i later class classes = readers_step (reads i r) (writes i r) class (register_readers r later classes)

byte_step : (p : ℕ) (i : Retired) (later : List Retired) (class : DeadClass) (classes : List DeadClass) → both (cond (loads i p) (reader class) Nobody) (cond (stores i p) Nobody (readers_of (byte_readers p later classes))) ≡ readers_of (byte_readers p (i ∷ later) (class ∷ classes))
unfolding byte_readers
byte_step p i later class classes = readers_step (loads i p) (stores i p) class (byte_readers p later classes)

-- ---- the class of an instruction

bytes_are : (bytes : List (ℕ × Readers)) (later : List Retired) (classes : List DeadClass) → ((p : ℕ) → of_byte bytes p ≡ readers_of (byte_readers p later classes)) → (p size : ℕ) → of_bytes bytes p size ≡ readers_of (bytes_readers p size later classes)
unfolding of_bytes bytes_readers
bytes_are bytes later classes h p zero = sym readers_none
bytes_are bytes later classes h p (suc size) =
    ap (λ x. both x (of_byte bytes (p + size))) (bytes_are bytes later classes h p size)
    ∙ ap (both (readers_of (bytes_readers p size later classes))) (h (p + size))
    ∙ sym (readers-append (bytes_readers p size later classes) (byte_readers (p + size) later classes))

stored_same : (store : Option (ℕ × ℕ × ℕ)) (bytes : List (ℕ × Readers)) (later : List Retired) (classes : List DeadClass) → ((p : ℕ) → of_byte bytes p ≡ readers_of (byte_readers p later classes)) → stored_by store bytes ≡ stored_class store later classes
stored_same None bytes later classes h = refl
stored_same (Some store) bytes later classes h =
    ap (class_by FddMem TddMem) (bytes_are bytes later classes h store.0 store.1) ∙ by_readers_is FddMem TddMem (bytes_readers store.0 store.1 later classes)

value_same : (i : Retired) (write : Option (ℕ × ℕ)) (registers : List Readers) (bytes : List (ℕ × Readers)) (later : List Retired) (classes : List DeadClass) → ForSome write (λ w. (0 < w.0) × (w.0 < 32)) → ((r : ℕ) → 0 < r → r < 32 → of_register registers r ≡ readers_of (register_readers r later classes)) → ((p : ℕ) → of_byte bytes p ≡ readers_of (byte_readers p later classes)) → value_by write i.effect.store registers bytes ≡ value_class i write later classes
value_same i None registers bytes later classes fits hr hb = stored_same i.effect.store bytes later classes hb
value_same i (Some w) registers bytes later classes fits hr hb =
    ap (class_by FddReg TddReg) (hr w.0 (fits w refl).0 (fits w refl).1) ∙ by_readers_is FddReg TddReg (register_readers w.0 later classes)

class_same : (i : Retired) (registers : List Readers) (bytes : List (ℕ × Readers)) (later : List Retired) (classes : List DeadClass) → ForSome i.effect.write (λ w. (0 < w.0) × (w.0 < 32)) → ((r : ℕ) → 0 < r → r < 32 → of_register registers r ≡ readers_of (register_readers r later classes)) → ((p : ℕ) → of_byte bytes p ≡ readers_of (byte_readers p later classes)) → class_from i registers bytes ≡ class_of i later classes
unfolding class_of
class_same i registers bytes later classes fits hr hb =
    ap (λ c. cond (is_nop i) Nop (cond (may_die i) c Needed)) (value_same i i.effect.write registers bytes later classes fits hr hb)

classes_more : (i : Retired) (later : List Retired) → classes_of (i ∷ later) ≡ class_of i later (classes_of later) ∷ classes_of later
unfolding classes_of
classes_more i later = refl

classes_none : classes_of [] ≡ []
unfolding classes_of
classes_none = refl

pub classes-length : (entries : List Retired) → length (classes_of entries) ≡ length entries
unfolding classes_of
classes-length [] = refl
classes-length (i ∷ later) = ap suc (classes-length later)

-- ---- one step back, the end of the run, and the whole

kept_more : (entries : List Retired) (registers registers' : List Readers) (bytes bytes' : List (ℕ × Readers)) (classes : List DeadClass) (at : ℕ) (entry : Retired) (class : DeadClass) → slice_get entries at ≡ Some entry → ForSome entry.effect.write (λ w. (0 < w.0) × (w.0 < 32)) → IsKept entries registers bytes classes (at + 1) → class ≡ class_from entry registers bytes → length registers' ≡ 32 → ((r : ℕ) → 0 < r → r < 32 → of_register registers' r ≡ both (cond (reads entry r) (reader class) Nobody) (cond (writes entry r) Nobody (of_register registers r))) → ((p : ℕ) → of_byte bytes' p ≡ both (cond (loads entry p) (reader class) Nobody) (cond (stores entry p) Nobody (of_byte bytes p))) → IsKept entries registers' bytes' (classes ++ class ∷ []) at
kept_more entries registers registers' bytes bytes' classes at entry class found fits h judged count hr hb =
    let later = drop (at + 1) entries in
    let rest : drop at entries ≡ entry ∷ later = drop_more entries at entry (slice_get_within entries at entry found) ∙ ap (λ x. x ∷ later) (get_or_from_slice_get entries at entry entry found) in
    let same : class ≡ class_of entry later (classes_of later) = judged ∙ class_same entry registers bytes later (classes_of later) fits h.register h.byte in
    let all : classes_of (entry ∷ later) ≡ class ∷ classes_of later = classes_more entry later ∙ ap (λ c. c ∷ classes_of later) (sym same) in
    record {
      count = count;
      register = λ r p l.
          rw (rest, all) (hr r p l ∙ ap (λ x. both (cond (reads entry r) (reader class) Nobody) (cond (writes entry r) Nobody x)) (h.register r p l) ∙ register_step r entry later class (classes_of later));
      byte = λ p.
          rw (rest, all) (hb p ∙ ap (λ x. both (cond (loads entry p) (reader class) Nobody) (cond (stores entry p) Nobody x)) (h.byte p) ∙ byte_step p entry later class (classes_of later));
      classes_are = rw (rest, all) (ap (λ c. c ++ class ∷ []) h.classes_are ∙ sym (reverse-append (class ∷ []) (classes_of later)));
    }

pub kept_none : (entries : List Retired) (registers : List Readers) → registers ≡ replicate 32 Nobody → IsKept entries registers [] [] (length entries)
unfolding register_readers byte_readers
kept_none entries registers e =
    let rest : drop (length entries) entries ≡ [] = drop_all (length entries) entries (omega arith) in
    record {
      count = ap length e ∙ length-replicate 32 Nobody;
      register = λ r p l. rw (rest, readers_none) (ap (λ x. get_or x r Nobody) e ∙ get_or-replicate 32 r Nobody Nobody l);
      byte = λ p. rw (rest, readers_none) refl;
      classes_are = rw (rest, classes_none) refl;
    }

-- the same with the reader that the program made of the class
pub kept_by : (entries : List Retired) (registers registers' : List Readers) (bytes bytes' : List (ℕ × Readers)) (classes : List DeadClass) (at : ℕ) (entry : Retired) (class : DeadClass) (one : Readers) → slice_get entries at ≡ Some entry → ForSome entry.effect.write (λ w. (0 < w.0) × (w.0 < 32)) → IsKept entries registers bytes classes (at + 1) → class ≡ class_from entry registers bytes → one ≡ reader class → length registers' ≡ 32 → ((r : ℕ) → 0 < r → r < 32 → of_register registers' r ≡ both (cond (reads entry r) one Nobody) (cond (writes entry r) Nobody (of_register registers r))) → ((p : ℕ) → of_byte bytes' p ≡ both (cond (loads entry p) one Nobody) (cond (stores entry p) Nobody (of_byte bytes p))) → IsKept entries registers' bytes' (classes ++ class ∷ []) at
kept_by entries registers registers' bytes bytes' classes at entry class one found fits h judged e count hr hb =
    kept_more entries registers registers' bytes bytes' classes at entry class found fits h judged count
    (λ r p l. hr r p l ∙ ap (λ x. both (cond (reads entry r) x Nobody) (cond (writes entry r) Nobody (of_register registers r))) e)
    (λ p. hb p ∙ ap (λ x. both (cond (loads entry p) x Nobody) (cond (stores entry p) Nobody (of_byte bytes p))) e)
