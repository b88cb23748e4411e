use Rattle.std.proofs.Common.{◌≡◌, map, Some, None, sym, ◌∙◌, rules, arith}
use Rattle.elf_load.specs.Answers.{lent}
use Rattle.elf_load.specs.Refusal.{file_refusal, layout_refusal}
use Rattle.elf_load.proofs.FileHeader.{accepted-long}
use Rattle.elf_load.proofs.Refusing.{refused_in_order, accepted-AreSegments, refused_by_file, refused_by_headers, headers_refusal-interpreter}
use Rattle.elf_load.proofs.Refusing.{headers_refusal-range, found-IsPermutation, sorted-AreInOrder}
use Rattle.elf_load.proofs.loader.segments.Goals as goal

pub returns-in-Some : goal.returns-in-Some
returns-in-Some c =
    let refused : file_refusal c.args.bytes.now ≡ Some c.in-Some.reason = cc in
    refused_by_file c.args.bytes.now c.args.ram c.in-Some.reason refused

pub returns-then-found : goal.returns-then-found
returns-then-found c =
    let accepted : file_refusal c.args.bytes.now ≡ None = search rules in
    refused_by_headers c.args.bytes.now c.args.ram 9 accepted
    (headers_refusal-interpreter c.args.bytes.now c.in_ok-found.found c.in_ok-found.ensures c.if-found.true)

pub returns-then-found-2 : goal.returns-then-found-2
returns-then-found-2 c =
    let accepted : file_refusal c.args.bytes.now ≡ None = search rules in
    refused_by_headers c.args.bytes.now c.args.ram 10 accepted
    (headers_refusal-range c.args.bytes.now c.in_ok-found.found c.in_ok-found.ensures c.if-found.false c.if-found-2.true)

pub word_at-requires : goal.word_at-requires
word_at-requires c =
    let accepted : file_refusal c.args.bytes.now ≡ None = search rules in
    omega (arith, accepted-long c.args.bytes.now accepted)

pub layout_refusal-requires : goal.layout_refusal-requires
layout_refusal-requires c =
    let same =
    found-IsPermutation c.args.bytes.now c.in_ok-found.found c.put_in_order.new.segments.items c.in_ok-found.ensures c.if-found-2.false
    c.put_in_order.ensures.same in
    record { order = rw c.deref.ensures.value (sorted-AreInOrder c.args.bytes.now c.put_in_order.new.segments.items same c.put_in_order.ensures.rising) }

pub returns-in-Some-layout_refusal : goal.returns-in-Some-layout_refusal
returns-in-Some-layout_refusal c =
    let accepted : file_refusal c.args.bytes.now ≡ None = search rules in
    let answer : c.layout_refusal.result ≡ layout_refusal (map lent c.put_in_order.new.segments.items) c.word_at.result c.args.ram =
    rw (← c.deref.ensures.value) c.layout_refusal.ensures in
    refused_in_order c.args.bytes.now c.in_ok-found.found c.put_in_order.new.segments.items c.word_at.result c.args.ram _ accepted c.in_ok-found.ensures
    c.if-found.false c.if-found-2.false c.put_in_order.ensures.same c.word_at.ensures answer
    ∙ c.in-Some-layout_refusal.is

pub returns : goal.returns
returns c =
    let accepted : file_refusal c.args.bytes.now ≡ None = search rules in
    let answer : c.layout_refusal.result ≡ layout_refusal (map lent c.put_in_order.new.segments.items) c.word_at.result c.args.ram =
    rw (← c.deref.ensures.value) c.layout_refusal.ensures in
    let none : layout_refusal (map lent c.put_in_order.new.segments.items) c.word_at.result c.args.ram ≡ None = sym answer ∙ c.in-None.is in
    let same =
    found-IsPermutation c.args.bytes.now c.in_ok-found.found c.put_in_order.new.segments.items c.in_ok-found.ensures c.if-found-2.false
    c.put_in_order.ensures.same in
    let order = sorted-AreInOrder c.args.bytes.now c.put_in_order.new.segments.items same c.put_in_order.ensures.rising in (
      refused_in_order c.args.bytes.now c.in_ok-found.found c.put_in_order.new.segments.items c.word_at.result c.args.ram _ accepted c.in_ok-found.ensures
          c.if-found.false c.if-found-2.false c.put_in_order.ensures.same c.word_at.ensures answer
          ∙ c.in-None.is,
      accepted-AreSegments c.args.bytes.now c.put_in_order.new.segments.items c.word_at.result c.args.ram same order none,
    )
