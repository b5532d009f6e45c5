use Rattle.std.proofs.Common.{sym}
use Rattle.pulsar_shared.proofs.News.{none_more, some_there}
use Rattle.pulsar_shared.proofs.copies.any_news.Goals as goal

pub returns-then-is_news : goal.returns-then-is_news
returns-then-is_news c = sym (some_there c.args.entries.now c.loop-entry.entry-index c.entry-item.result c.loop-entry-test.true c.entry-item.is c.is_news.result c.is_news.ensures c.if-is_news.true)

pub loop-entry-preserved : goal.loop-entry-preserved
loop-entry-preserved c = none_more c.args.entries.now c.loop-entry.entry-index c.entry-item.result c.loop-entry-test.true c.entry-item.is c.is_news.result c.is_news.ensures c.if-is_news.false c.loop-entry.invariant
