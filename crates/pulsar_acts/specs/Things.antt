-- The things of a client, as kinds of pulsar_run.
use Rattle.std.specs.Prelude.{ℕ, false, []}
use Rattle.pulsar_run.specs.Things.{Kind}
use Rattle.pulsar_calls.specs.declared.act.Act.{Act}
use Rattle.pulsar_calls.specs.Content.{Heard}
use Rattle.pulsar_consumer_table.specs.Consumers.{Deed, Member, member_by}
use Rattle.pulsar_links.specs.Asks as of_link
use Rattle.pulsar_links.specs.Asks.{seat_by}
use Rattle.pulsar_links.specs.Seats.{Seat}
use Rattle.pulsar_producer.specs.Topic as topic
use Rattle.pulsar_producer_table.specs.Producers.{topic_after}
use Rattle.pulsar_producer_table.specs.declared.table.Topic.{Topic}
use Rattle.pulsar_acts.specs.View.{View, link_acts, link_born, link_gone, link_heard, member_acts, member_born, topic_acts, topic_born}

-- topic producers, by their numbers
abbrev pub topics : Kind View Heard Act ℕ Topic topic.Act
topics =
    record {
      row = λ v n. v.producers.topics n;
      born = λ v a n. topic_born v n a;
      gone = λ v a n. false;
      acts = λ v a n. topic_acts v n a;
      heard = λ v e n. [];
      after = topic_after;
    }

-- consumers, by the tickets of the calls that made them
abbrev pub members : Kind View Heard Act ℕ Member Deed
members =
    record {
      row = λ v t. v.consumers.rows t;
      born = λ v a t. member_born v t a;
      gone = λ v a t. false;
      acts = λ v a t. member_acts v t a;
      heard = λ v e t. [];
      after = member_by;
    }

-- links that have not ended, by their numbers
abbrev pub links : Kind View Heard Act ℕ Seat of_link.Deed
links =
    record {
      row = λ v l. v.links.live l;
      born = λ v a l. link_born v l a;
      gone = λ v a l. link_gone v l a;
      acts = λ v a l. link_acts v l a;
      heard = λ v e l. link_heard l e;
      after = seat_by;
    }
