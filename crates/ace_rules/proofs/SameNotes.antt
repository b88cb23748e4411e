-- Notes that are the same part by part.
use Rattle.std.proofs.Common.{◌≡◌, ℕ, zero, suc, ◌<◌, ◌&&◌, nat_eq, Bool, true, List, length, sym, ◌∙◌, arith}
use Rattle.std.proofs.Math.Bool.{beq}
use Rattle.std.specs.Cmp.{booleans_Decides}
use Rattle.std.proofs.lemmas.Bool.{and_parts}
use Rattle.std.proofs.lemmas.Bool.Decides.{nat_tests}
use Rattle.std.proofs.lemmas.List.{ext_get_or}
use Rattle.store_buf.specs.Entry.{Entry, no_entry}
use Rattle.store_buf.specs.Pending.{slot_of}
use Rattle.eval_mask.specs.declared.latches.LatchMask.{LatchMask}
use Rattle.ace_rules.specs.declared.note.Note.{Note}

number : (m n : ℕ) → nat_eq m n ≡ true → m ≡ n
number m n h = grind (arith, nat_tests)

bool : (x y : Bool) → beq x y ≡ true → x ≡ y
bool x y h = (booleans_Decides x y).0 h

-- ---- stores

pub same-store : (e d : Entry) → (nat_eq e.mask d.mask && (nat_eq e.addr d.addr && nat_eq e.value d.value)) ≡ true → e ≡ d
same-store e d h =
    let (mask, rest) = and_parts _ _ h in
    let (addr, value) = and_parts _ _ rest in
    let m = number e.mask d.mask mask in
    let a = number e.addr d.addr addr in
    let v = number e.value d.value value in
    λ i. record { mask = m i; addr = a i; value = v i }

pub same-buffer : (xs ys : List Entry) → length xs ≡ 4 → length ys ≡ 4 → slot_of xs 0 ≡ slot_of ys 0 → slot_of xs 1 ≡ slot_of ys 1
    → slot_of xs 2 ≡ slot_of ys 2 → slot_of xs 3 ≡ slot_of ys 3 → xs ≡ ys
same-buffer xs ys m n first second third fourth = ext_get_or no_entry xs ys (m ∙ sym n) each
  where
    each : (k : ℕ) → k < length xs → slot_of xs k ≡ slot_of ys k
    each zero l = first
    each (suc zero) l = second
    each (suc (suc zero)) l = third
    each (suc (suc (suc zero))) l = fourth
    each (suc (suc (suc (suc k)))) l = absurd (omega (arith, l, m))

-- ---- masks and notes

pub same-masks : (a b : LatchMask) → (nat_eq a.idex_low b.idex_low && (nat_eq a.idex_high b.idex_high && (nat_eq a.exmem b.exmem && nat_eq a.memwb b.memwb))) ≡ true
    → a ≡ b
same-masks a b h =
    let (low, rest) = and_parts _ _ h in
    let (high, latches) = and_parts _ _ rest in
    let (executed, result) = and_parts _ _ latches in
    let l = number a.idex_low b.idex_low low in
    let g = number a.idex_high b.idex_high high in
    let e = number a.exmem b.exmem executed in
    let r = number a.memwb b.memwb result in
    λ i. record { idex_low = l i; idex_high = g i; exmem = e i; memwb = r i }

pub same-note : (a b : Note) (next missed stores masks : Bool) → (next ≡ true → a.next ≡ b.next) → (missed ≡ true → a.missed ≡ b.missed)
    → (stores ≡ true → a.stores ≡ b.stores) → (masks ≡ true → a.masks ≡ b.masks)
    → (nat_eq a.executed b.executed && beq a.occupied b.occupied && beq a.traps b.traps && nat_eq a.executed_rd b.executed_rd
    && nat_eq a.result_rd b.result_rd && nat_eq a.decoded_rd b.decoded_rd && beq a.decoded b.decoded && beq a.decoded_on_path b.decoded_on_path
    && beq a.decoded_next b.decoded_next && nat_eq a.waiting b.waiting && nat_eq a.on_path b.on_path && next && missed && stores && masks) ≡ true
    → a ≡ b
same-note a b next missed stores masks is_next is_missed are_stores are_masks h =
    let (h14, e15) = and_parts _ _ h in
    let (h13, e14) = and_parts _ _ h14 in
    let (h12, e13) = and_parts _ _ h13 in
    let (h11, e12) = and_parts _ _ h12 in
    let (h10, e11) = and_parts _ _ h11 in
    let (h9, e10) = and_parts _ _ h10 in
    let (h8, e9) = and_parts _ _ h9 in
    let (h7, e8) = and_parts _ _ h8 in
    let (h6, e7) = and_parts _ _ h7 in
    let (h5, e6) = and_parts _ _ h6 in
    let (h4, e5) = and_parts _ _ h5 in
    let (h3, e4) = and_parts _ _ h4 in
    let (h2, e3) = and_parts _ _ h3 in
    let (e1, e2) = and_parts _ _ h2 in
    let executed = number a.executed b.executed e1 in
    let occupied = bool a.occupied b.occupied e2 in
    let traps = bool a.traps b.traps e3 in
    let executed_rd = number a.executed_rd b.executed_rd e4 in
    let result_rd = number a.result_rd b.result_rd e5 in
    let decoded_rd = number a.decoded_rd b.decoded_rd e6 in
    let decoded = bool a.decoded b.decoded e7 in
    let decoded_on_path = bool a.decoded_on_path b.decoded_on_path e8 in
    let decoded_next = bool a.decoded_next b.decoded_next e9 in
    let waiting = number a.waiting b.waiting e10 in
    let on_path = number a.on_path b.on_path e11 in
    let n = is_next e12 in
    let m = is_missed e13 in
    let s = are_stores e14 in
    let k = are_masks e15 in
    λ i. record {
      executed = executed i;
      occupied = occupied i;
      traps = traps i;
      executed_rd = executed_rd i;
      result_rd = result_rd i;
      decoded_rd = decoded_rd i;
      decoded = decoded i;
      decoded_on_path = decoded_on_path i;
      decoded_next = decoded_next i;
      waiting = waiting i;
      on_path = on_path i;
      next = n i;
      missed = m i;
      stores = s i;
      masks = k i;
    }
