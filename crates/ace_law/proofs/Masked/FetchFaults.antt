-- The fault bit of an entry: a fetch fault alone ends with its trap, so a fetched word never does the same, and under the bit every word does.
use Rattle.std.proofs.Common.{◌≡◌, ◌≢◌, ℕ, Bool, true, false, List, [], ◌∷◌, arith, refl, ap, sym, ◌∙◌}
use Rattle.std.specs.Prelude.{Option, Some, None, not, ◌||◌, if◌then◌else◌}
use Rattle.std.proofs.lemmas.Bool.Decides.{nat_tests}
use Rattle.avf_base.specs.declared.end.End.TheVariants.{Trap}
use Rattle.elf_load.specs.Image.{LoadedImage, executable, fetch, word_in_ram}
use Rattle.rv_table.specs.Actions.{action, asked, asked_by, clock_test, is_clocked, judged, with_counter}
use Rattle.rv_table.specs.Effects.{byte_put}
use Rattle.rv_table.specs.Operations.{operation_of}
use Rattle.rv_table.specs.Rows.{Row, row_of, rows}
use Rattle.rv_table.specs.Words.{decode, matches, op_of_form, row_matching, row_of_word}
use Rattle.rv_table.specs.declared.action.Action.{Action}
use Rattle.rv_table.specs.declared.form.Form.{Form}
use Rattle.rv_table.specs.declared.form.Form.TheVariants.{U}
use Rattle.rv_table.specs.declared.op.Op.{Op}
use Rattle.rv_table.specs.declared.op.TheConstants.{FETCH_FAULT_CODE}
use Rattle.rv_table.specs.declared.operation.Operation.{Operation}
use Rattle.rv_table.specs.declared.operation.Operation.TheVariants.{FetchFault}
use Rattle.rv_table.specs.declared.row.Pattern.{Pattern}
use Rattle.rv_table.specs.declared.row.Pattern.TheVariants.{NoWord}
use Rattle.rv_table.specs.declared.trap.TheConstants.{FETCH_FAULT}
use Rattle.rv_table.proofs.Writes.{law as write-law}
use Rattle.rv_isa.specs.Effects.{operated}
use Rattle.rv_isa.specs.Instruction.{State as Arch, completed, end_of, first_clock, instruction, op_of_word, reg, with_byte}
use Rattle.ace_law.specs.Agreements.{OperationAgrees}
use Rattle.ace_law.specs.Moments.{Moment, trace}

-- ---- no word is a fetch fault

is_fault : Operation → Bool
is_fault FetchFault = true
is_fault _ = false

has_none : Pattern → Bool
has_none NoWord = true
has_none _ = false

-- a row that words have is no fetch fault's
is_sound : Row → Bool
is_sound r = has_none r.fixed || not (is_fault (operation_of r.code))

are_sound : List Row → Bool
are_sound [] = true
are_sound (r ∷ rs) = if is_sound r then are_sound rs else false

rows-sound : are_sound rows ≡ true
unfolding are_sound is_sound has_none is_fault operation_of row_of
rows-sound = refl

sound-if : (b c : Bool) → (if b then c else false) ≡ true → (b ≡ true) × (c ≡ true)
sound-if true c h = (refl, h)
sound-if false c h = absurd cc

matched : (p : Pattern) (w : ℕ) (f : Bool) → matches p w ≡ true → (has_none p || not f) ≡ true → f ≡ false
unfolding has_none
matched NoWord w f m h = absurd cc
matched _ w true m h = absurd cc
matched _ w false m h = refl

matching-sound : (rs : List Row) (w : ℕ) → are_sound rs ≡ true → is_fault (operation_of (row_matching rs w).code) ≡ false
unfolding are_sound is_sound is_fault operation_of row_of
matching-sound [] w h = refl
matching-sound (r ∷ rs) w h =
    let both = sound-if (is_sound r) (are_sound rs) h in
    go (matches r.fixed w) refl (λ m. matched r.fixed w (is_fault (operation_of r.code)) m both.0) (matching-sound rs w both.1)
  where
    go : (b : Bool) → matches r.fixed w ≡ b → (matches r.fixed w ≡ true → is_fault (operation_of r.code) ≡ false)
        → is_fault (operation_of (row_matching rs w).code) ≡ false → is_fault (operation_of (if b then r else row_matching rs w).code) ≡ false
    go true e here rest = here e
    go false e here rest = rest

form-code : (f : Form) (code w : ℕ) → (op_of_form f code w).code ≡ code
form-code U code w = refl
form-code _ code w = refl

decode-sound : (w : ℕ) → is_fault (operation_of (decode w).code) ≡ false
unfolding decode row_of_word
decode-sound w =
    ap (λ (c : ℕ). is_fault (operation_of c)) (form-code (row_of_word w).form (row_of_word w).code w) ∙ matching-sound rows w rows-sound

-- ---- no other operation ends with its trap

asked-other : (o : Operation) (op : Op) (pc a b : ℕ) → is_fault o ≡ false → end_of (asked_by o op pc a b) ≢ Some (Trap FETCH_FAULT)
unfolding asked_by is_fault
asked-other o op pc a b h = grind (arith, nat_tests)

judged-other : (ram executable : ℕ → Bool) (x : Action) → end_of x ≢ Some (Trap FETCH_FAULT)
    → end_of (judged ram executable x) ≢ Some (Trap FETCH_FAULT)
unfolding judged
judged-other ram executable x h = grind (arith, nat_tests)

action-other : (ram executable : ℕ → Bool) (op : Op) (pc a b : ℕ) → is_fault (operation_of op.code) ≡ false
    → end_of (action ram executable op pc a b) ≢ Some (Trap FETCH_FAULT)
unfolding action asked
action-other ram executable op pc a b h =
    judged-other ram executable (asked_by (operation_of op.code) op pc a b) (asked-other (operation_of op.code) op pc a b h)

-- ---- operations

fault-done : (image : LoadedImage) (op : Op) (at : Arch) → op.code ≡ FETCH_FAULT_CODE
    → ((operated image op at).stop ≡ Some (Trap FETCH_FAULT)) × ((operated image op at).log.output ≡ at.log.output)
unfolding completed
fault-done image op at e =
    let c = with_counter op (first_clock at.clocks) at.count (reg at.registers op.rs2) in
    let done = write-law.faults (word_in_ram image) (executable image) op at.pc (reg at.registers op.rs1) c e in
    (ap end_of done, ap (λ (x : Action). with_byte at.log.output (byte_put x)) done)

other-done : (image : LoadedImage) (op : Op) (at : Arch) → is_fault (operation_of op.code) ≡ false
    → (operated image op at).stop ≢ Some (Trap FETCH_FAULT)
unfolding completed
other-done image op at h =
    action-other (word_in_ram image) (executable image) op at.pc (reg at.registers op.rs1)
    (with_counter op (first_clock at.clocks) at.count (reg at.registers op.rs2)) h

fault-unread : (op : Op) → op.code ≡ FETCH_FAULT_CODE → is_clocked op ≡ false
unfolding is_clocked clock_test operation_of row_of
fault-unread op e = ap (λ (c : ℕ). is_clocked (record op { code = c })) e

instruction-is : (a : Moment) (i : ℕ) (o : Option ℕ) → fetch a.r.image (trace a i).pc ≡ o
    → instruction a.r.image (trace a i) ≡ operated a.r.image (op_of_word o) (trace a i)
unfolding instruction
instruction-is a i o e = ap (λ (z : Option ℕ). operated a.r.image (op_of_word z) (trace a i)) e

-- a fetch fault in place of a fetched word
pub fault-differs : (a : Moment) (i word : ℕ) (op : Op) → fetch a.r.image (trace a i).pc ≡ Some word → op.code ≡ FETCH_FAULT_CODE
    → OperationAgrees a i op → ⊥
fault-differs a i word op fetched e agrees =
    let done = fault-done a.r.image op (trace a i) e in
    other-done a.r.image (decode word) (trace a i) (decode-sound word)
    (ap (λ (z : Arch). z.stop) (sym (instruction-is a i (Some word) fetched)) ∙ sym agrees.same.stop ∙ done.0)

-- a word in place of a fetch fault
pub word-differs : (a : Moment) (i word : ℕ) → fetch a.r.image (trace a i).pc ≡ None → OperationAgrees a i (decode word) → ⊥
word-differs a i word none agrees =
    let done = fault-done a.r.image (op_of_word None) (trace a i) refl in
    other-done a.r.image (decode word) (trace a i) (decode-sound word)
    (agrees.same.stop ∙ ap (λ (z : Arch). z.stop) (instruction-is a i None none) ∙ done.0)

-- a fetch fault with the fields of any word, in place of one
pub fault-same : (a : Moment) (i : ℕ) (op : Op) → fetch a.r.image (trace a i).pc ≡ None → op.code ≡ FETCH_FAULT_CODE → OperationAgrees a i op
fault-same a i op none e =
    let own = fault-done a.r.image (op_of_word None) (trace a i) refl in
    let done = fault-done a.r.image op (trace a i) e in
    let next = instruction-is a i None none in
    record {
      unread = fault-unread op e;
      same =
          record {
            output = done.1 ∙ sym own.1 ∙ ap (λ (z : Arch). z.log.output) (sym next);
            stop = done.0 ∙ sym own.0 ∙ ap (λ (z : Arch). z.stop) (sym next);
            next = λ goes_on. let ends = done.0 in absurd cc;
          };
    }
