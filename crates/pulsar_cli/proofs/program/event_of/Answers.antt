use Rattle.std.proofs.Common.{rules, arith, ◌≡◌, ◌-◌, ◌<◌, ◌++◌, ◌∙◌, sym, subst, Err, length, take}
use Rattle.std.specs.Prelude.{IfSome, MatchOption}
use Rattle.pulsar_calls.specs.Content.{heard}
use Rattle.pulsar_cli.specs.Shown.{HasConsumed, Running}
use Rattle.pulsar_cli.specs.declared.stop.Stop.TheVariants as stop
use Rattle.pulsar_cli.proofs.Feeds.{fed-front, unread-inside}
use Rattle.pulsar_cli.proofs.program.event_of.Goals as goal

pub returns-in_err-event-clause-refused : goal.returns-in_err-event-clause-refused
returns-in_err-event-clause-refused c = λ is ps o h put bytes source run fed.
    let same : c.piece.result ≡ Err stop.Refused = search rules in
    let unread = c.unread.ensures.bytes fed.order (unread-inside c.args.feed.now fed) in
    rw (sym unread) (c.in_err-event.ensures.refused (sym c.in_err-event.was ∙ same) ps o h put bytes run)

pub returns-in-Some-clause-found : goal.returns-in-Some-clause-found
returns-in-Some-clause-found c = λ ps o h put bytes source run fed.
    let unread = c.unread.ensures.bytes fed.order (unread-inside c.args.feed.now fed) in
    let found = subst (λ t. MatchOption t (Running ps o h c.piece.new.self put (bytes ++ c.unread.result.now)) (λ p. HasConsumed ps o h c.piece.new.self put (bytes ++ take (length c.unread.result.now - p.1) c.unread.result.now) (heard p.0))) c.in-Some.is (c.in_ok-event.ensures.ok ps o h put bytes run) in
    let less = subst (λ t. IfSome t (λ p. p.1 < length c.unread.result.now)) c.in-Some.is c.in_ok-event.ensures.less in
    let size = c.unread.ensures.size in
    let rest = c.keep.ensures.rest in (
      _,
      subst (λ t. HasConsumed ps o h c.piece.new.self put (bytes ++ take (length t - c.in-Some.count) t) (heard c.in-Some.event)) unread found,
      fed-front c.args.feed.now c.keep.new.self c.in-Some.count fed (omega (arith, less, size)) c.keep.ensures.from rest.0 rest.1 rest.2,
    )
