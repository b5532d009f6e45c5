use Rattle.std.proofs.Common.{◌≡◌, ◌++◌, subst, ℕ, List, Bool, string_bytes}
use Rattle.pulsar_broker.specs.Stands.{HasHeard}
use Rattle.pulsar_broker.specs.declared.broker.Broker.{Broker}
use Rattle.pulsar_broker.proofs.broker.Broker.read.Goals as goal

-- what was fed, and what was heard of it
heard_of : (url : List ℕ) (link : ℕ) (fed before after : List ℕ) (whole : Bool) (old new : Broker) → fed ≡ before → HasHeard url link fed after whole old new → HasHeard url link before after whole old new
heard_of url link fed before after whole old new same h = subst (λ xs. HasHeard url link xs after whole old new) same h

pub returns-then-is_whole-clause-read : goal.returns-then-is_whole-clause-read
returns-then-is_whole-clause-read c kept =
    let h = heard_of (string_bytes c.args.self.now.url) c.args.link c.feed.new.self (c.args.reader ++ c.args.piece.now) c.hear.new.reader c.in_ok-is_whole.is_whole c.args.self.now c.hear.new.self
    c.in_ok-feed.ensures.ok (c.in_ok-is_whole.ensures.heard kept) in
    record { answered = h.answered; reads = h.rest }

pub returns-clause-read : goal.returns-clause-read
returns-clause-read c kept =
    let h = heard_of (string_bytes c.args.self.now.url) c.args.link c.feed.new.self (c.args.reader ++ c.args.piece.now) c.hear.new.reader c.in_ok-is_whole.is_whole c.args.self.now c.hear.new.self
    c.in_ok-feed.ensures.ok (c.in_ok-is_whole.ensures.heard kept) in
    record { answered = h.answered; reads = h.refused c.if-is_whole.false }
