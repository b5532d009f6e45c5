use Rattle.pulsar_shared.proofs.Traces.{news_had}
use Rattle.pulsar_shared.proofs.shared.Desk.news.Goals as goal

pub returns-then-has_news-clause-had : goal.returns-then-has_news-clause-had
returns-then-has_news-clause-had g c =
    news_had g.C.Machine.good _ _ _ _ _ c.args.self.now.traced.trace.items c.args.self.now.same c.args.self.now.traced.legal c.args.self.now.counted c.audit.ensures.bound c.args.seen c.has_news.result c.has_news.ensures c.if-has_news.true
