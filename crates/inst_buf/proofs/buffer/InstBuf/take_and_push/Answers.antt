use Rattle.std.proofs.Common.{◌≡◌, ◌-◌, drop, length, arith, ap, sym, ◌∙◌, length-drop}
use Rattle.bit_field.proofs.Slots.{in_front-push}
use Rattle.inst_buf.specs.Buffer.{entries}
use Rattle.inst_buf.specs.Entry.{no_entry}
use Rattle.inst_buf.specs.declared.buffer.TheConstants.{SLOTS}
use Rattle.inst_buf.proofs.Packed.{length-later}
use Rattle.inst_buf.proofs.buffer.InstBuf.take_and_push.Goals as goal

pub listed : goal.listed
listed c = omega (arith, c.saturating_sub-remaining.ensures, c.len.ensures, length-later c.args.self.now c.fits.ensures.0, length-drop 1 (entries c.args.self.now), c.self.invariant)

pub bounds-self-inside-remaining : goal.bounds-self-inside-remaining
bounds-self-inside-remaining c = omega (arith, c.saturating_sub-remaining.ensures, c.len.ensures, length-later c.args.self.now c.fits.ensures.0, length-drop 1 (entries c.args.self.now))

pub returns-clause-waiting : goal.returns-clause-waiting
returns-clause-waiting c =
    let place : c.saturating_sub-remaining.result ≡ length (drop 1 (entries c.args.self.now)) =
    c.saturating_sub-remaining.ensures ∙ ap (λ n. n - 1) c.len.ensures ∙ sym (length-drop 1 (entries c.args.self.now)) in
    rw (place, c.self.view_is, c.drop_first.ensures)
    (in_front-push SLOTS no_entry (drop 1 (entries c.args.self.now)) c.args.s (length-later c.args.self.now c.fits.ensures.0))

pub returns-clause-room : goal.returns-clause-room
returns-clause-room c = length-later c.args.self.now c.fits.ensures.0
