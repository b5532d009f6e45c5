use Rattle.std.proofs.Common.{◌≡◌, ◌∙◌, ◌++◌, ℕ, ap, get_or, not, sym, take}
use Rattle.std.proofs.lemmas.List.{take_more}
use Rattle.std.specs.List.{flat_map}
use Rattle.pulsar_calls.specs.declared.act.Word.TheVariants.{Over}
use Rattle.pulsar_consumer.specs.Topic.{Ends}
use Rattle.pulsar_incoming.specs.declared.polled.Ending.TheVariants.{Closed}
use Rattle.pulsar_consumer_table.specs.Consumers.{Member, at_row, member_after, word_if}
use Rattle.pulsar_consumer_table.specs.KeptConsumers.{one_changed, rows_in, some_changed}
use Rattle.pulsar_consumer_table.specs.Notices.{word_to}
use Rattle.pulsar_consumer_table.proofs.Several.{apart_at, more_changed, more_given}
use Rattle.pulsar_consumer_table.proofs.hearing.close_all.Goals as goal

pub loop-ticket-preserved : goal.loop-ticket-preserved
loop-ticket-preserved c =
    let ts = c.args.tickets.now in
    let i = c.loop-ticket.ticket-index in
    let x = get_or ts i 0 in
    let within = c.loop-ticket-test.true in
    let more = take_more ts i 0 within in
    let apart = apart_at ts i within c.requires in
    let rows = rows_in c.args.rows.now in
    let kept = rows_in c.loop-ticket.rows in
    let new = rows_in c.close_at.new.rows in
    let f = member_after (Ends Closed) in
    let g = λ (t : ℕ) (m : Member). word_to t m (word_if (not m.seen.is_raw) Over) in
    let was = c.loop-ticket.invariant in
    let done = c.in_ok-close_at.ensures in
    let is : (t : ℕ) → new t ≡ one_changed x f kept t = λ t. done.rows t in (
      done.notices
          ∙ ap (λ ns. ns ++ at_row g kept x) was.0
          ∙ sym (more_given (take i ts) x f rows kept new apart was.1 is g)
          ∙ ap (flat_map (at_row g rows)) (sym more),
      (λ t. more_changed (take i ts) x f rows kept new apart was.1 is t ∙ ap (λ us. some_changed us f rows t) (sym more)),
      done.tickets ∙ was.2,
    )
