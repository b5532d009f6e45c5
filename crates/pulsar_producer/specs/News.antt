-- What the plan of a send is told.
use Rattle.pulsar_searches.specs.declared.making.Command.{Command}
use Rattle.pulsar_searches.specs.declared.turn.SearchOutcome.{SearchOutcome}
use Rattle.pulsar_outgoing.specs.declared.news.News.{News as NewsOf}

abbrev pub News : Type 0
News = NewsOf SearchOutcome Command
