-- A consumer as its user sees it: what is seen of the consumer of its one topic.
use Rattle.std.specs.Prelude.{List, [], ◌∷◌, Option, Some, None}
use Rattle.url.specs.Parts.{Parts}
use Rattle.pulsar_consumer.specs.Topic.{Live, Seen}

-- the URLs of its live subscriptions
abbrev pub urls : Option Live → List Parts
urls None = []
urls (Some l) = l.url ∷ []

abbrev pub connections : Seen → List Parts
connections v = urls v.engine.live
