-- The image of a generated program has its loop and its end.
use Rattle.std.proofs.Common.{◌≡◌, ℕ, suc, ◌+◌, ◌*◌, ◌/◌, ◌%◌, ◌^◌, ◌<◌, ◌≤◌, true, false, cond, get_or, refl, subst, ◌∙◌, arith, lit<}
use Rattle.std.specs.Prelude.{IsTrue, ◌==◌, if◌then◌else◌}
use Rattle.std.specs.List.{flat_map}
use Rattle.std.proofs.lemmas.Bool.Decides.{nat_tests}
use Rattle.elf_load.specs.Image.{LoadedImage}
use Rattle.elf_load.specs.Layout.{IsRamSize}
use Rattle.elf_load.specs.Meaning.{image_of}
use Rattle.elf_write.specs.Code.{op_bytes}
use Rattle.elf_write.specs.Loading.{program_segments}
use Rattle.rv_isa.specs.Instruction.{op_at}
use Rattle.rv_table.specs.WellFormed.{well_formed}
use Rattle.rv_table.specs.Words.{sign_extended}
use Rattle.rv_table.specs.declared.op.Op.{Op}
use Rattle.img_gen.specs.Program.{body_op, by_kind, finish, generated, program, random_words}
use Rattle.img_gen.proofs.Accepted.{written}
use Rattle.img_gen.proofs.Coded.{coded}
use Rattle.img_gen.proofs.Ending.{IsFinish}
use Rattle.img_gen.proofs.Fitting.{fits_body, fits_finish}
use Rattle.img_gen.proofs.Loading.{no_code, text_image, word_there}
use Rattle.img_gen.proofs.Placed.{op_of_body, op_of_finish}
use Rattle.img_gen.proofs.Quiet.{HasRoom, safe_body}
use Rattle.img_gen.proofs.RandomWords.{random_below}
use Rattle.img_gen.proofs.Rounds.{IsLoop}
use Rattle.img_gen.proofs.Sizes.{length-program, length-text}

-- as loaded in a RAM of so many bytes
abbrev pub image_with : ℕ → ℕ → ℕ → LoadedImage
image_with number size ram = text_image (flat_map op_bytes (program number size)) ram

pub meaning : (number size ram : ℕ) → size ≤ 4096 → image_of (generated number size) ram ≡ image_with number size ram
unfolding image_of generated program_segments text_image
meaning number size ram h =
    let is = written number size h in
    rw (is.segments, is.entry) refl

room : (number size ram : ℕ) → size ≤ 4096 → IsRamSize ram → HasRoom (image_with number size ram)
room number size ram h is =
    let long = length-text number size in
    let least = is.least in
    record {
      words = λ x l m. word_there (flat_map op_bytes (program number size)) ram (x / 4) (omega arith) (omega (arith, least));
      data_only = λ x l. no_code (flat_map op_bytes (program number size)) ram x is (omega (arith, long)) (omega (arith, long));
    }

pub placed : (number size ram i word : ℕ) (op : Op) → size ≤ 4096 → IsRamSize ram → i < size + 9 → word ≡ 16384 + i
    → get_or (program number size) i op ≡ op → well_formed op ≡ true → op.imm < 2 ^ 32 → op_at (image_with number size ram) word ≡ op
placed number size ram i word op h is l e at good small =
    let long = length-program number size in
    rw e (coded (program number size) ram i op is (omega (arith, long)) (omega (arith, long)) at good small)

-- Its instructions

small_number : (n : ℕ) → n < 2 ^ 12 → sign_extended 12 n < 2 ^ 32
small_number n h = grind (arith, nat_tests)

one : (kind n : ℕ) (a b : Op) → a.imm < 2 ^ 32 → b.imm < 2 ^ 32 → (if kind == n then a else b).imm < 2 ^ 32
one kind n a b p q = elim (kind == n) as (λ t. (cond t a b).imm < 2 ^ 32) [ true ↦ p | false ↦ q ]

small_by_kind : (kind rd rs1 rs2 n : ℕ) → n < 2 ^ 12 → (by_kind kind rd rs1 rs2 n).imm < 2 ^ 32
unfolding by_kind
small_by_kind kind rd rs1 rs2 n h =
    let none : 0 < 2 ^ 32 = lit< tt in
    let word : n % 2 ^ 11 / 4 * 4 < 2 ^ 32 = omega arith in
    let byte : n % 2 ^ 11 < 2 ^ 32 = omega arith in
    one kind 0 _ _ none (one kind 1 _ _ none (one kind 2 _ _ none (one kind 3 _ _ none (one kind 4 _ _ none (one kind 5 _ _ none
    (one kind 6 _ _ none (one kind 7 _ _ none (one kind 8 _ _ (small_number n h) (one kind 9 _ _ (small_number n h) (one kind 10 _ _ none
    (one kind 11 _ _ none (one kind 12 _ _ word (one kind 13 _ _ word (one kind 14 _ _ byte byte))))))))))))))

small_body : (random : ℕ) → random < 2 ^ 32 → (body_op random).imm < 2 ^ 32
unfolding body_op
small_body random h = small_by_kind _ _ _ _ (random / 2 ^ 20) (omega arith)

body_placed : (number size ram i : ℕ) → size ≤ 4096 → IsRamSize ram → i < size
    → op_at (image_with number size ram) (16386 + i) ≡ body_op (get_or (random_words number size) i 0)
body_placed number size ram i h is l =
    let random : ℕ = get_or (random_words number size) i 0 in
    let below : random < 2 ^ 32 = random_below number size i l in
    placed number size ram (suc (suc i)) (16386 + i) (body_op random) h is (omega arith) (omega arith)
    (op_of_body number size i (body_op random) l)
    (fits_body random below) (small_body random below)

-- instruction i behind the body
finish_placed : (number size ram i word : ℕ) (op : Op) → size ≤ 4096 → IsRamSize ram → i < 7 → word ≡ 16386 + size + i
    → get_or (finish size) i op ≡ op → op.imm < 2 ^ 32 → op_at (image_with number size ram) word ≡ op
finish_placed number size ram i word op h is l e at small =
    let good : IsTrue (well_formed op) = subst (λ (o : Op). IsTrue (well_formed o)) at (fits_finish size h i op l) in
    placed number size ram (suc (suc (size + i))) word op h is (omega arith) (omega arith) (op_of_finish number size i op ∙ at) good small

pub loop : (number size ram : ℕ) → size ≤ 4096 → IsRamSize ram → IsLoop (image_with number size ram) size
loop number size ram h is = record {
  small = h;
  body = λ i l. rw (body_placed number size ram i h is l)
      (safe_body (image_with number size ram) (get_or (random_words number size) i 0) (room number size ram h is));
  less = finish_placed number size ram 0 (16386 + size) _ h is (lit< tt) (omega arith) refl (lit< tt);
  test = finish_placed number size ram 1 (16387 + size) _ h is (lit< tt) (omega arith) refl (lit< tt);
  again = finish_placed number size ram 2 (16388 + size) _ h is (lit< tt) (omega arith) refl (omega arith);
}

pub end_placed : (number size ram : ℕ) → size ≤ 4096 → IsRamSize ram → IsFinish (image_with number size ram) (16389 + size)
end_placed number size ram h is = record {
  put_number = finish_placed number size ram 3 (16389 + size) _ h is (lit< tt) (omega arith) refl (lit< tt);
  put = finish_placed number size ram 4 (16389 + size + 1) _ h is (lit< tt) (omega arith) refl (lit< tt);
  exit_number = finish_placed number size ram 5 (16389 + size + 2) _ h is (lit< tt) (omega arith) refl (lit< tt);
  exit = finish_placed number size ram 6 (16389 + size + 3) _ h is (lit< tt) (omega arith) refl (lit< tt);
}
