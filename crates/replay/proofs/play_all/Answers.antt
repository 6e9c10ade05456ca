-- The loop's invariant: the text of the lines done is the buffer's front, and what is left to do is a trace of what is left.
use Rattle.std.proofs.Common.{◌≡◌, ◌+◌, ◌≤◌, ◌<◌, List, [], map, get_or, length, refl, sym, ap, ◌∙◌, arith}
use Rattle.std.proofs.lemmas.List.{get_or-map}
use Rattle.text.specs.Records.{record_of_bytes, records_of}
use Rattle.text.specs.declared.Record.{Record}
use Rattle.text.specs.Text.{longest}
use Rattle.text.proofs.Records.{record-count, record-chunks}
use Rattle.replay.proofs.Going.{going-start, going-next, going-done, going-written, going-over, never-refused}
use Rattle.replay.proofs.play_all.Goals as goal

pub loop-next-init : goal.loop-next-init
loop-next-init c = going-start c.args.card.now c.args.memory.now (records_of c.args.bytes.now) c.args.buffer.now

pub returns-in_err-end : goal.returns-in_err-end
returns-in_err-end c =
    let room : c.loop-next.end + longest ≤ length c.loop-next.buffer = omega (arith, record-count c.args.bytes.now) in
    absurd (never-refused c.in_err-end.field-0.0 _ _ _ room c.in_err-end.ensures.answer)

pub loop-next-preserved : goal.loop-next-preserved
loop-next-preserved c =
    let room : c.loop-next.end + longest ≤ length c.loop-next.buffer = omega (arith, record-count c.args.bytes.now) in
    let less : c.loop-next.next-index < length (records_of c.args.bytes.now) = omega (arith, record-count c.args.bytes.now) in
    let fours = c.as_chunks.result.0.now in
    let same : records_of c.args.bytes.now ≡ map record_of_bytes fours
    = record-chunks _ c.args.bytes.now refl ∙ ap (map record_of_bytes) (sym c.as_chunks.ensures.front) in
    let r = c.from.result in
    let this = ap (λ (l : List Record). get_or l c.loop-next.next-index r) same ∙ get_or-map record_of_bytes fours _ [] r c.loop-next-test.true ∙ sym c.from.ensures in
    let played = c.replay-line.ensures in
    going-next c.loop-next.invariant r less this _ _ _ _ _ room played.after played.line played.memory_after c.in_ok-end.ensures.behind c.put_line.ensures.buffer_after

pub returns : goal.returns
returns c =
    let g = c.loop-next.invariant in
    let all : c.loop-next.next-index ≡ length (records_of c.args.bytes.now) = omega (arith, record-count c.args.bytes.now) in
    let inside : c.loop-next.end ≤ length c.loop-next.buffer = omega (arith, record-count c.args.bytes.now) in
    rw (going-done g all inside) (record { done = going-written g all inside; never = refl; after = refl; memory_after = refl; buffer_after = going-over g all inside })
