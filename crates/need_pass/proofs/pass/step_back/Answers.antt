use Rattle.std.proofs.Common.{◌≡◌, ◌⊎◌, ℕ, ◌+◌, ◌*◌, ◌<◌, ◌^◌, true}
use Rattle.std.specs.Int.{bit_at}
use Rattle.std.specs.Prelude.{bit_or}
use Rattle.rv_table.specs.Operations.{operation_of}
use Rattle.need_pass.specs.Links.{LinkA, LinkB, stores, byte_number, stored_bytes}
use Rattle.need_pass.specs.Masks.{HasOne}
use Rattle.need_pass.specs.Needed.{RootA, RootB}
use Rattle.need_pass.specs.Tables.{register_mask, byte_mask}
use Rattle.need_pass.proofs.MaskBits.{mask_or}
use Rattle.need_pass.proofs.StepLinks.{steps_back}
use Rattle.need_pass.proofs.pass.step_back.Goals as goal

pub returns : goal.returns
returns c =
    let i = c.args.entry.now in
    let o = operation_of i.op.code in
    let B0 = byte_mask c.args.bytes.now.entries in
    let LeadsA : ℕ → Type 0 = λ k. HasOne c.in_ok-result.result (LinkA o i.op i.a i.b k) in
    let LeadsB : ℕ → Type 0 = λ k. HasOne c.in_ok-result.result (LinkB o i.a i.b k) in
    let Stored : ℕ → Type 0 = λ k. (p j : ℕ) × (p < 2 ^ 32) × (j < 8) × (stores i p ≡ true) × (k ≡ 8 * byte_number (stored_bytes i.effect.store) p + j) × (bit_at (B0 p 0) j ≡ 1) in
    steps_back i c.args.at c.args.registers.now c.add_register-2.new.registers c.args.bytes.now.entries c.add_loaded.new.histories.entries (register_mask c.take_register.new.registers) (register_mask c.add_register.new.registers) (byte_mask c.clear_stored.new.histories.entries) (record {
      result = c.in_ok-result.result;
      loaded = c.link_loaded-loaded.result;
      a = bit_or c.link_a.result c.roots_a.result;
      b = bit_or (bit_or c.link_b.result c.roots_b.result) c.stored_mask-stored.result;
      loaded_below = c.link_loaded-loaded.type_inv;
      result_is = c.in_ok-result.ensures.mask;
      loaded_is = c.link_loaded-loaded.ensures;
      a_is = mask_or c.link_a.result c.roots_a.result LeadsA (RootA o i.op) c.link_a.ensures c.roots_a.ensures;
      b_is = mask_or (bit_or c.link_b.result c.roots_b.result) c.stored_mask-stored.result (λ k. LeadsB k ⊎ RootB o i.a k) Stored (mask_or c.link_b.result c.roots_b.result LeadsB (RootB o i.a) c.link_b.ensures c.roots_b.ensures) c.stored_mask-stored.ensures;
      take = c.in_ok-result.ensures.taken;
      add_a = c.in_ok-add_register.ensures;
      add_b = c.in_ok-add_register-2.ensures;
      clear = c.in_ok-clear_stored.ensures;
      load = c.in_ok-add_loaded.ensures;
    })
