-- The bits of written values that are needed afterwards: with other values an aftermath agrees exactly where they are the same in those.
use Rattle.std.proofs.Common.{◌≡◌, ℕ, ◌<◌, false, refl, sym, ◌∙◌, ap, subst, arith, inl, inr}
use Rattle.std.specs.Int.{bit_at}
use Rattle.std.specs.Prelude.{Option, Some, None, is_none}
use Rattle.std.proofs.lemmas.Bool.{cases_eq, cases_lt}
use Rattle.std.proofs.lemmas.Bool.Decides.{nat_tests}
use Rattle.std.proofs.lemmas.Nat.Bits.{bit_at-zero}
use Rattle.avf_base.specs.declared.end.End.{End}
use Rattle.need_pass.specs.Tables.{Needs, reg_need}
use Rattle.eval_mask.specs.Aftermaths.{registers_after, state_after, written}
use Rattle.eval_mask.specs.Agreement.{Agree}
use Rattle.eval_mask.specs.Compared.{SameWhere, need_at}
use Rattle.eval_mask.specs.WrittenValues.{IsLasting, unless_replaced, with_values}
use Rattle.eval_mask.specs.declared.completing.Aftermath.{Aftermath}
use Rattle.eval_mask.specs.declared.completing.Write.{Write}
use Rattle.eval_mask.specs.declared.written.Lasting.{Lasting}
use Rattle.eval_mask.proofs.Agreeing.{agree_by, agree_end, agree_next}
use Rattle.eval_mask.proofs.Differences.{need_inside, same_all}
use Rattle.eval_mask.proofs.Doings.{unwritten, written_here}

-- register r after writes of one register: what holds of the values, if it is that, or of the registers under them
passes : (rd x y : ℕ) (g h : ℕ → ℕ) (r mask : ℕ) → 0 < r → (r ≡ rd → SameWhere 32 mask x y) → ((r ≡ rd → ⊥) → SameWhere 32 mask (g r) (h r))
    → SameWhere 32 mask (written (record { rd = rd; value = x }) g r) (written (record { rd = rd; value = y }) h r)
passes rd x y g h r mask above here there =
    elim (cases_eq r rd) [
      | inl e ↦ let s = here e in grind (arith, nat_tests)
      | inr ne ↦ let s = there ne in grind (arith, nat_tests)
    ]

need_is : (needs : Needs) (j r rd : ℕ) → 0 < r → r < 32 → r ≡ rd → need_at needs rd j ≡ reg_need needs r j
need_is needs j r rd above below e = ap (λ (q : ℕ). need_at needs q j) (sym e) ∙ need_inside needs r j above below

not_replaced : (mask rd : ℕ) (by : Write) → (rd ≡ by.rd → ⊥) → unless_replaced mask rd by ≡ mask
not_replaced mask rd by ne = grind (arith, nat_tests)

replaced : (mask rd : ℕ) (by : Write) → rd ≡ by.rd → unless_replaced mask rd by ≡ 0
replaced mask rd by e = grind (arith, nat_tests)

of_mask : (a b x y : ℕ) → a ≡ b → SameWhere 32 a x y → SameWhere 32 b x y
of_mask a b x y e s = subst (λ (m : ℕ). SameWhere 32 m x y) e s

same_register : (needs : Needs) (j : ℕ) (f : ℕ → ℕ) (own : Aftermath) (lasting : Lasting) (x y z : ℕ) → IsLasting needs j own lasting → own.end ≡ None
    → SameWhere 32 lasting.first x own.first.value → SameWhere 32 lasting.below y own.below.write.value → SameWhere 32 lasting.above z own.above.write.value
    → (r : ℕ) → 0 < r → r < 32 → SameWhere 32 (reg_need needs r j) (registers_after (with_values own x y z) f r) (registers_after own f r)
same_register needs j f own lasting x y z is none first below above r over under =
    passes own.above.write.rd z own.above.write.value _ _ r (reg_need needs r j) over
    (λ e. of_mask lasting.above (reg_need needs r j) z own.above.write.value (is.above none ∙ need_is needs j r own.above.write.rd over under e) above)
    (λ n.
    passes own.below.write.rd y own.below.write.value _ _ r (reg_need needs r j) over
    (λ e.
    of_mask lasting.below (reg_need needs r j) y own.below.write.value
    (is.below none
    ∙ not_replaced (need_at needs own.below.write.rd j) own.below.write.rd own.above.write (λ q. n (e ∙ q))
    ∙ need_is needs j r own.below.write.rd over under e) below)
    (λ m.
    passes own.first.rd x own.first.value f f r (reg_need needs r j) over
    (λ e.
    of_mask lasting.first (reg_need needs r j) x own.first.value
    (is.first none
    ∙ not_replaced _ own.first.rd own.above.write (λ q. n (e ∙ q))
    ∙ not_replaced (need_at needs own.first.rd j) own.first.rd own.below.write (λ q. m (e ∙ q))
    ∙ need_is needs j r own.first.rd over under e) first)
    (λ k. same_all 32 (reg_need needs r j) (f r) (f r) refl)))

pub values_agree : (needs : Needs) (j : ℕ) (f memory : ℕ → ℕ) (own : Aftermath) (lasting : Lasting) (x y z : ℕ) → IsLasting needs j own lasting
    → SameWhere 32 lasting.first x own.first.value → SameWhere 32 lasting.below y own.below.write.value
    → SameWhere 32 lasting.above z own.above.write.value
    → Agree needs j (state_after (with_values own x y z) f memory) (state_after own f memory)
values_agree needs j f memory own lasting x y z is first below above =
    agree_by needs j f memory (with_values own x y z) own refl refl
    (λ none. record {
      pc = refl;
      written = record { same = λ r. record { same = λ over under. same_register needs j f own lasting x y z is none first below above r over under } };
      stored = record { same = λ p. record { same = λ l. same_all 8 _ _ _ refl } };
    })

-- ---- and only where they are

pub nothing : (mask x y : ℕ) → mask ≡ 0 → SameWhere 32 mask x y
nothing mask x y e = record {
  same = λ k l one. let z : bit_at mask k ≡ 0 = ap (λ (v : ℕ). bit_at v k) e ∙ bit_at-zero k in absurd (omega (arith, z, one));
}

no_need : (needs : Needs) (rd j : ℕ) → ((0 < rd) × (rd < 32) → ⊥) → need_at needs rd j ≡ 0
no_need needs rd j h = grind (arith, nat_tests)

-- the need of a register, by what holds of a register
by_register : (needs : Needs) (j rd x y : ℕ) → (0 < rd → rd < 32 → SameWhere 32 (reg_need needs rd j) x y) → SameWhere 32 (need_at needs rd j) x y
by_register needs j rd x y same =
    elim (cases_lt 0 rd) [
      | inl above ↦
          elim (cases_lt rd 32) [
            | inl below ↦ of_mask (reg_need needs rd j) (need_at needs rd j) x y (sym (need_inside needs rd j above below)) (same above below)
            | inr out ↦ nothing _ x y (no_need needs rd j (λ both. omega (arith, both.1)))
          ]
      | inr out ↦ nothing _ x y (no_need needs rd j (λ both. omega (arith, both.0)))
    ]

of_values : (mask a b x y : ℕ) → a ≡ x → b ≡ y → SameWhere 32 mask a b → SameWhere 32 mask x y
of_values mask a b x y e f s = rw (sym e, sym f) s

unless_or : (needs : Needs) (j rd x y : ℕ) (by : Write) (mask : ℕ) → ((rd ≡ by.rd → ⊥) → SameWhere 32 mask x y) → SameWhere 32 (unless_replaced mask rd by) x y
unless_or needs j rd x y by mask same =
    elim (cases_eq rd by.rd) [
      | inl e ↦ nothing _ x y (replaced mask rd by e)
      | inr ne ↦ of_mask mask (unless_replaced mask rd by) x y (sym (not_replaced mask rd by ne)) (same ne)
    ]

-- two ended aftermaths: nothing lasts
pub ended_or : (end : Option End) (P : Type 0) → (end ≡ None → P) → (is_none end ≡ false → P) → P
ended_or None P here there = here refl
ended_or (Some e) P here there = there refl

pub above_needed : (needs : Needs) (j : ℕ) (f memory : ℕ → ℕ) (own : Aftermath) (lasting : Lasting) (x y z : ℕ) → IsLasting needs j own lasting
    → Agree needs j (state_after (with_values own x y z) f memory) (state_after own f memory) → SameWhere 32 lasting.above z own.above.write.value
above_needed needs j f memory own lasting x y z is a =
    ended_or own.end (SameWhere 32 lasting.above z own.above.write.value)
    (λ none.
    let n = agree_next needs j f memory (with_values own x y z) own a none in
    of_mask (need_at needs own.above.write.rd j) lasting.above z own.above.write.value (sym (is.above none))
    (by_register needs j own.above.write.rd z own.above.write.value
    (λ over under.
    of_values _ _ _ z own.above.write.value (written_here own.above.write.rd z _ over) (written_here own.above.write.rd own.above.write.value _ over)
    ((n.written.same own.above.write.rd).same over under))))
    (λ some. nothing lasting.above z own.above.write.value ((is.ended some).2))

pub below_needed : (needs : Needs) (j : ℕ) (f memory : ℕ → ℕ) (own : Aftermath) (lasting : Lasting) (x y z : ℕ) → IsLasting needs j own lasting
    → Agree needs j (state_after (with_values own x y z) f memory) (state_after own f memory) → SameWhere 32 lasting.below y own.below.write.value
below_needed needs j f memory own lasting x y z is a =
    let rd = own.below.write.rd in
    ended_or own.end (SameWhere 32 lasting.below y own.below.write.value)
    (λ none.
    let n = agree_next needs j f memory (with_values own x y z) own a none in
    of_mask _ lasting.below y own.below.write.value (sym (is.below none))
    (unless_or needs j rd y own.below.write.value own.above.write (need_at needs rd j)
    (λ ne.
    by_register needs j rd y own.below.write.value
    (λ over under.
    of_values _ _ _ y own.below.write.value
    (unwritten own.above.write.rd z _ rd ne ∙ written_here rd y _ over)
    (unwritten own.above.write.rd own.above.write.value _ rd ne ∙ written_here rd own.below.write.value _ over)
    ((n.written.same rd).same over under)))))
    (λ some. nothing lasting.below y own.below.write.value ((is.ended some).1))

pub first_needed : (needs : Needs) (j : ℕ) (f memory : ℕ → ℕ) (own : Aftermath) (lasting : Lasting) (x y z : ℕ) → IsLasting needs j own lasting
    → Agree needs j (state_after (with_values own x y z) f memory) (state_after own f memory) → SameWhere 32 lasting.first x own.first.value
first_needed needs j f memory own lasting x y z is a =
    let rd = own.first.rd in
    ended_or own.end (SameWhere 32 lasting.first x own.first.value)
    (λ none.
    let n = agree_next needs j f memory (with_values own x y z) own a none in
    of_mask _ lasting.first x own.first.value (sym (is.first none))
    (unless_or needs j rd x own.first.value own.above.write _
    (λ ne.
    unless_or needs j rd x own.first.value own.below.write (need_at needs rd j)
    (λ nm.
    by_register needs j rd x own.first.value
    (λ over under.
    of_values _ _ _ x own.first.value
    (unwritten own.above.write.rd z _ rd ne ∙ unwritten own.below.write.rd y _ rd nm ∙ written_here rd x f over)
    (unwritten own.above.write.rd own.above.write.value _ rd ne ∙ unwritten own.below.write.rd own.below.write.value _ rd nm ∙ written_here rd own.first.value f over)
    ((n.written.same rd).same over under))))))
    (λ some. nothing lasting.first x own.first.value ((is.ended some).0))

-- whatever else an aftermath leaves, if it writes the same register above
pub below_seen : (needs : Needs) (j : ℕ) (f memory : ℕ → ℕ) (own : Aftermath) (lasting : Lasting) (left : Aftermath) (value : ℕ) → IsLasting needs j own lasting → own.end ≡ None
    → left.below.write ≡ (record own.below.write { value = value }) → left.above.write.rd ≡ own.above.write.rd
    → Agree needs j (state_after left f memory) (state_after own f memory) → SameWhere 32 lasting.below value own.below.write.value
below_seen needs j f memory own lasting left value is none e above a =
    let rd = own.below.write.rd in
    let n = agree_next needs j f memory left own a (agree_end needs j f memory left own a ∙ none) in
    of_mask _ lasting.below value own.below.write.value (sym (is.below none))
    (unless_or needs j rd value own.below.write.value own.above.write (need_at needs rd j)
    (λ ne.
    by_register needs j rd value own.below.write.value
    (λ over under.
    of_values _ _ _ value own.below.write.value
    (unwritten left.above.write.rd left.above.write.value _ rd (λ q. ne (q ∙ above))
    ∙ ap (λ (x : Write). written x (written left.first f) rd) e
    ∙ written_here rd value _ over)
    (unwritten own.above.write.rd own.above.write.value _ rd ne ∙ written_here rd own.below.write.value _ over)
    ((n.written.same rd).same over under))))
