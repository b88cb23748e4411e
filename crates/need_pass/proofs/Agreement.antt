-- One instruction from a recorded state and from one that agrees with it: the same is seen, and the states after it agree.
use Rattle.std.proofs.Common.{◌≡◌, ℕ, ◌+◌, ◌*◌, ◌^◌, ◌<◌, Bool, true, false, cond, eqb, List, ◌∷◌, refl, sym, ◌∙◌, ap, subst, arith, eqb-true, inl, inr}
use Rattle.std.specs.Int.{bit_at}
use Rattle.elf_load.specs.Image.{LoadedImage, IsImage, word_in_ram, executable}
use Rattle.rv_isa.specs.Effects.{load_of, store_of, retired_at, effect_of, effect_by, operand_b}
use Rattle.rv_isa.specs.Instruction.{State, reg, put_reg, given, instruction, op_at, action_in, first_clock, later_clocks, next_count, end_of}
use Rattle.rv_isa.specs.declared.effect.Retired.{Retired}
use Rattle.rv_table.specs.Actions.{action, asked, next_address, with_counter, is_clocked, access_of}
use Rattle.rv_table.specs.Effects.{written_register, byte_put}
use Rattle.rv_table.specs.Operations.{operation_of}
use Rattle.rv_table.specs.declared.action.Action.{Action}
use Rattle.rv_table.specs.declared.op.Op.{Op}
use Rattle.need_pass.specs.Law.{seen}
use Rattle.rv_isa.specs.Words.{IsWords}
use Rattle.rv_isa.specs.Accesses.{next_action}
use Rattle.need_pass.specs.Links.{Link, LinkA, LinkB, LinkLoaded, writes, is_register, has_byte, byte_number, stored_bytes}
use Rattle.need_pass.specs.Needed.{Root, RootA, RootB, Needed, Agrees}
use Rattle.need_pass.specs.ProgramBits.{ProgramBit, Register, Byte, IsProgramBit, bit_of}
use Rattle.rv_table.proofs.DecodedFields.{IsFields}
use Rattle.rv_isa.proofs.Fetched.{fetched_fields}
use Rattle.need_pass.proofs.Passes.{needed_bit}
use Rattle.need_pass.proofs.TwinEffects.{IsAllowed, allowed, same_access, same_put, same_end, same_register, same_given, same_memory}
use Rattle.need_pass.proofs.Twins.{Twins, asked_twins, judged_twins}
use Rattle.rv_isa.proofs.Ranges.{operand_below}
use Rattle.rv_isa.proofs.NextState.{registers_next, memory_next, pc_next, count_next, clocks_next}
use Rattle.need_pass.proofs.OneStep.{same_operand, writes_is, put_reg-at, loaded_below, done_at, same_clocks, same_address, seen_by, write_recorded}

-- The two states, of which s is recorded, and the instruction that both are at.
module _ (image : LoadedImage) (t : List Retired) (s u : State) (is : IsImage image) (ws : IsWords s) (wu : IsWords u) (agree : Agrees (retired_at image s ∷ t) s u) where
  fields : IsFields (op_at image s.pc)
  fields = fetched_fields image is s.pc

  root : (p : ProgramBit) → IsProgramBit p → Root (retired_at image s) p → bit_of s p ≡ bit_of u p
  unfolding Needed
  root p place r = sym (agree.bits p (place, inl r))

  linked : (p q : ProgramBit) → IsProgramBit p → Link (retired_at image s) p q → Needed t q → bit_of s p ≡ bit_of u p
  unfolding Needed
  linked p q place link n = sym (agree.bits p (place, inr (q, link, n)))

  root_a : (k : ℕ) → k < 32 → RootA (operation_of (op_at image s.pc).code) (op_at image s.pc) k → bit_at (reg s.registers (op_at image s.pc).rs1) k ≡ bit_at (reg u.registers (op_at image s.pc).rs1) k
  unfolding retired_at Root
  root_a k l r = same_operand s.registers u.registers (op_at image s.pc).rs1 k (λ pos. root (Register (op_at image s.pc).rs1 k) (pos, fields.rs1, l) (inl (refl, r)))

  root_b : (k : ℕ) → k < 32 → RootB (operation_of (op_at image s.pc).code) (reg s.registers (op_at image s.pc).rs1) k → bit_at (reg s.registers (op_at image s.pc).rs2) k ≡ bit_at (reg u.registers (op_at image s.pc).rs2) k
  unfolding retired_at Root
  root_b k l r = same_operand s.registers u.registers (op_at image s.pc).rs2 k (λ pos. root (Register (op_at image s.pc).rs2 k) (pos, fields.rs2, l) (inr (refl, r)))

  -- the actions that the two ask for
  twins : Twins (operation_of (op_at image s.pc).code) (op_at image s.pc) (reg s.registers (op_at image s.pc).rs1) (reg s.registers (op_at image s.pc).rs2) (reg u.registers (op_at image s.pc).rs1) (reg u.registers (op_at image s.pc).rs2) (next_action image s) (done_at image (op_at image s.pc) s.pc u)
  unfolding action asked with_counter
  twins =
      let o : Op = op_at image s.pc in
      let a : ℕ = reg s.registers o.rs1 in
      let b : ℕ = reg s.registers o.rs2 in
      let c : ℕ = reg u.registers o.rs1 in
      let d : ℕ = reg u.registers o.rs2 in
      let asks = asked_twins (operation_of o.code) o s.pc (first_clock s.clocks) s.count a b c d (operand_below s.registers o.rs1 ws.registers) (operand_below s.registers o.rs2 ws.registers) (operand_below u.registers o.rs1 wu.registers) (operand_below u.registers o.rs2 wu.registers) fields.imm root_a root_b in
      subst (λ (x : ℕ). Twins (operation_of o.code) o a b c d (next_action image s) (action_in image o s.pc c x)) (sym (same_clocks image o s.pc s u agree.count agree.clocks)) (judged_twins (word_in_ram image) (executable image) (operation_of o.code) o a b c d _ _ asks)

  allows : IsAllowed (word_in_ram image) (next_action image s)
  unfolding action
  allows = allowed (word_in_ram image) (executable image) (asked (op_at image s.pc) s.pc (reg s.registers (op_at image s.pc).rs1) (operand_b (op_at image s.pc) s))

  next_is : done_at image (op_at image s.pc) s.pc u ≡ next_action image u
  next_is = ap (λ pc. done_at image (op_at image pc) pc u) (sym agree.pc)

  paired : Twins (operation_of (op_at image s.pc).code) (op_at image s.pc) (reg s.registers (op_at image s.pc).rs1) (reg s.registers (op_at image s.pc).rs2) (reg u.registers (op_at image s.pc).rs1) (reg u.registers (op_at image s.pc).rs2) (next_action image s) (next_action image u)
  paired = subst (λ (x : Action). Twins (operation_of (op_at image s.pc).code) (op_at image s.pc) (reg s.registers (op_at image s.pc).rs1) (reg s.registers (op_at image s.pc).rs2) (reg u.registers (op_at image s.pc).rs1) (reg u.registers (op_at image s.pc).rs2) (next_action image s) x) next_is twins

  pub same_seen : seen image u ≡ seen image s
  unfolding seen
  same_seen =
      ap (λ x. seen_by x (access_of (next_action image u)) (byte_put (next_action image u)) (end_of (next_action image u))) agree.pc
      ∙ ap (λ x. seen_by s.pc x (byte_put (next_action image u)) (end_of (next_action image u))) (sym (same_access _ _ _ _ _ _ _ _ paired))
      ∙ ap (λ x. seen_by s.pc (access_of (next_action image s)) x (end_of (next_action image u))) (sym (same_put _ _ _ _ _ _ _ _ paired))
      ∙ ap (λ x. seen_by s.pc (access_of (next_action image s)) (byte_put (next_action image s)) x) (sym (same_end _ _ _ _ _ _ _ _ paired))

  -- the written register's bits
  link_a : (r j k : ℕ) → 0 < r → r < 32 → j < 32 → writes (retired_at image s) r ≡ true → Needed t (Register r j) → k < 32 → LinkA (operation_of (op_at image s.pc).code) (op_at image s.pc) (reg s.registers (op_at image s.pc).rs1) (reg s.registers (op_at image s.pc).rs2) k j → bit_at (reg s.registers (op_at image s.pc).rs1) k ≡ bit_at (reg u.registers (op_at image s.pc).rs1) k
  unfolding retired_at Link
  link_a r j k p q l w n m link = same_operand s.registers u.registers (op_at image s.pc).rs1 k (λ pos. linked (Register (op_at image s.pc).rs1 k) (Register r j) (pos, fields.rs1, m) (inr (w, inl (refl, link))) n)

  link_b : (r j k : ℕ) → 0 < r → r < 32 → j < 32 → writes (retired_at image s) r ≡ true → Needed t (Register r j) → k < 32 → LinkB (operation_of (op_at image s.pc).code) (reg s.registers (op_at image s.pc).rs1) (reg s.registers (op_at image s.pc).rs2) k j → bit_at (reg s.registers (op_at image s.pc).rs2) k ≡ bit_at (reg u.registers (op_at image s.pc).rs2) k
  unfolding retired_at Link
  link_b r j k p q l w n m link = same_operand s.registers u.registers (op_at image s.pc).rs2 k (λ pos. linked (Register (op_at image s.pc).rs2 k) (Register r j) (pos, fields.rs2, m) (inr (w, inr (refl, link))) n)

  link_loaded : (r j p k : ℕ) → 0 < r → r < 32 → j < 32 → writes (retired_at image s) r ≡ true → Needed t (Register r j) → k < 8 → has_byte (load_of (next_action image s)) p ≡ true → LinkLoaded (operation_of (op_at image s.pc).code) (8 * byte_number (load_of (next_action image s)) p + k) j → bit_at (s.memory p) k ≡ bit_at (u.memory p) k
  unfolding retired_at effect_of effect_by Link
  link_loaded r j p k a b l w n m h link = linked (Byte p k) (Register r j) (loaded_below image (next_action image s) p is allows h, m) (w, h, link) n

  written : (r j : ℕ) → 0 < r → r < 32 → j < 32 → eqb r (written_register (next_action image s)) ≡ true → writes (retired_at image s) r ≡ true → Needed t (Register r j) → bit_at (given image (next_action image s) s.memory) j ≡ bit_at (given image (next_action image u) u.memory) j
  written r j p q l e w n =
      same_given image (operation_of (op_at image s.pc).code) (op_at image s.pc) (reg s.registers (op_at image s.pc).rs1) (reg s.registers (op_at image s.pc).rs2) (reg u.registers (op_at image s.pc).rs1) (reg u.registers (op_at image s.pc).rs2) j s.memory u.memory (next_action image s) (next_action image u) paired allows ws.memory wu.memory l
      (λ k m. link_a r j k p q l w n m) (λ k m. link_b r j k p q l w n m) (λ y k m h. link_loaded r j y k p q l w n m h) (omega (arith, eqb-true r (written_register (next_action image s)) e))

  kept_link : (r j : ℕ) → writes (retired_at image s) r ≡ false → Link (retired_at image s) (Register r j) (Register r j)
  unfolding Link
  kept_link r j w = inl (w, refl, refl)

  register_bit : (r j : ℕ) → 0 < r → r < 32 → j < 32 → Needed t (Register r j) → bit_at ((instruction image s).registers r) j ≡ bit_at ((instruction image u).registers r) j
  register_bit r j p q l n = ap (λ f. bit_at (f r) j) (registers_next image s) ∙ bits ∙ sym (ap (λ f. bit_at (f r) j) (registers_next image u))
    where
      test : writes (retired_at image s) r ≡ eqb r (written_register (next_action image s))
      test = ap (λ x. is_register x r) (write_recorded image s) ∙ writes_is image (next_action image s) s.memory r p

      by_test : (b : Bool) → eqb r (written_register (next_action image s)) ≡ b → bit_at (cond b (given image (next_action image s) s.memory) (s.registers r)) j ≡ bit_at (cond b (given image (next_action image u) u.memory) (u.registers r)) j
      by_test true e = written r j p q l e (test ∙ e) n
      by_test false e = linked (Register r j) (Register r j) (p, q, l) (kept_link r j (test ∙ e)) n

      bits : bit_at (put_reg (written_register (next_action image s)) (given image (next_action image s) s.memory) s.registers r) j ≡ bit_at (put_reg (written_register (next_action image u)) (given image (next_action image u) u.memory) u.registers r) j
      bits =
          ap (λ v. bit_at v j) (put_reg-at (written_register (next_action image s)) (given image (next_action image s) s.memory) r s.registers p)
          ∙ by_test (eqb r (written_register (next_action image s))) refl
          ∙ ap (λ x. bit_at (cond (eqb r x) (given image (next_action image u) u.memory) (u.registers r)) j) (same_register _ _ _ _ _ _ _ _ paired)
          ∙ sym (ap (λ v. bit_at v j) (put_reg-at (written_register (next_action image u)) (given image (next_action image u) u.memory) r u.registers p))

  link_stored : (p k m : ℕ) → p < 2 ^ 32 → k < 8 → Needed t (Byte p k) → has_byte (stored_bytes (store_of (next_action image s))) p ≡ true → m < 32 → m ≡ 8 * byte_number (stored_bytes (store_of (next_action image s))) p + k → bit_at (reg s.registers (op_at image s.pc).rs2) m ≡ bit_at (reg u.registers (op_at image s.pc).rs2) m
  unfolding retired_at effect_of effect_by Link
  link_stored p k m b l n h c e = same_operand s.registers u.registers (op_at image s.pc).rs2 m (λ pos. linked (Register (op_at image s.pc).rs2 m) (Byte p k) (pos, fields.rs2, c) (h, refl, e) n)

  kept_byte : (p k : ℕ) → has_byte (stored_bytes (store_of (next_action image s))) p ≡ false → Link (retired_at image s) (Byte p k) (Byte p k)
  unfolding retired_at effect_of effect_by Link
  kept_byte p k h = (h, refl, refl)

  byte_bit : (p k : ℕ) → p < 2 ^ 32 → k < 8 → Needed t (Byte p k) → bit_at ((instruction image s).memory p) k ≡ bit_at ((instruction image u).memory p) k
  byte_bit p k b l n =
      ap (λ f. bit_at (f p) k) (memory_next image s)
      ∙ same_memory image (operation_of (op_at image s.pc).code) (op_at image s.pc) (reg s.registers (op_at image s.pc).rs1) (reg s.registers (op_at image s.pc).rs2) (reg u.registers (op_at image s.pc).rs1) (reg u.registers (op_at image s.pc).rs2) p k s.memory u.memory (next_action image s) (next_action image u) paired allows l (λ h m c e. link_stored p k m b l n h c e) (λ h. linked (Byte p k) (Byte p k) (b, l) (kept_byte p k h) n)
      ∙ sym (ap (λ f. bit_at (f p) k) (memory_next image u))

  same_pc : (instruction image u).pc ≡ (instruction image s).pc
  same_pc =
      pc_next image u
      ∙ ap (λ pc. next_address (op_at image pc) pc (reg u.registers (op_at image pc).rs1) (operand_b (op_at image pc) u)) agree.pc
      ∙ ap (λ x. next_address (op_at image s.pc) s.pc (reg u.registers (op_at image s.pc).rs1) x) (same_clocks image (op_at image s.pc) s.pc s u agree.count agree.clocks)
      ∙ sym address
      ∙ sym (pc_next image s)
    where
      address : next_address (op_at image s.pc) s.pc (reg s.registers (op_at image s.pc).rs1) (operand_b (op_at image s.pc) s) ≡ next_address (op_at image s.pc) s.pc (reg u.registers (op_at image s.pc).rs1) (with_counter (op_at image s.pc) (first_clock s.clocks) s.count (reg u.registers (op_at image s.pc).rs2))
      address = same_address (op_at image s.pc) s.pc (first_clock s.clocks) s.count (reg s.registers (op_at image s.pc).rs1) (reg s.registers (op_at image s.pc).rs2) (reg u.registers (op_at image s.pc).rs1) (reg u.registers (op_at image s.pc).rs2) (operand_below s.registers (op_at image s.pc).rs1 ws.registers) (operand_below s.registers (op_at image s.pc).rs2 ws.registers) (operand_below u.registers (op_at image s.pc).rs1 wu.registers) (operand_below u.registers (op_at image s.pc).rs2 wu.registers) root_a root_b

  bits_agree : (p : ProgramBit) → IsProgramBit p → Needed t p → bit_of (instruction image u) p ≡ bit_of (instruction image s) p
  bits_agree (Register r j) (p, q, l) n = sym (register_bit r j p q l n)
  bits_agree (Byte p k) (b, l) n = sym (byte_bit p k b l n)

  pub agrees_next : Agrees t (instruction image s) (instruction image u)
  agrees_next = record {
    pc = same_pc;
    count = count_next image u ∙ ap next_count agree.count ∙ sym (count_next image s);
    clocks = clocks_next image u ∙ ap (λ pc. cond (is_clocked (op_at image pc)) (later_clocks u.clocks) u.clocks) agree.pc ∙ ap (λ c. cond (is_clocked (op_at image s.pc)) (later_clocks c) c) agree.clocks ∙ sym (clocks_next image s);
    bits = λ p n. bits_agree p (needed_bit t p n) n;
  }
