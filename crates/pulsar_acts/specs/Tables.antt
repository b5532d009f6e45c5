-- For the code's contracts alone: what is seen of the tables of a client.
use Rattle.std.specs.Prelude.{ℕ, Bool, not, ◌&&◌, List, [], ◌∷◌, Option, Some, None, true, false, if◌then◌else◌}
use Rattle.std.specs.Option.{option_map}
use Rattle.pulsar_messages.specs.Content.{authentication_values}
use Rattle.pulsar_addresses.specs.Address.{address_key}
use Rattle.pulsar_calls.specs.declared.act.Act.{Act}
use Rattle.pulsar_calls.specs.declared.act.Act.TheVariants.{Comes}
use Rattle.pulsar_calls.specs.declared.act.Alarm.{Alarm}
use Rattle.pulsar_calls.specs.declared.act.Alarm.TheVariants as alarm
use Rattle.pulsar_calls.specs.declared.act.Arrival.{Arrival}
use Rattle.pulsar_calls.specs.declared.act.End.TheVariants.{Idles}
use Rattle.pulsar_calls.specs.declared.act.LinkAct.TheVariants.{Ends}
use Rattle.pulsar_calls.specs.declared.act.Makes.{Makes}
use Rattle.pulsar_calls.specs.declared.act.Makes.TheVariants.{Nothing, Client, Consumer, RawConsumer, Producer}
use Rattle.pulsar_calls.specs.declared.act.Part.TheVariants.{ToLink}
use Rattle.pulsar_calls.specs.declared.act.TopicAsk.{TopicAsk}
use Rattle.pulsar_calls.specs.declared.act.TopicAsk.TheVariants.{TakeTurn, PassTurn, Draw, Recall, Remake, Find, Store, Flush, TakeBatch}
use Rattle.pulsar_calls.specs.declared.act.Who.{Who}
use Rattle.pulsar_calls.specs.declared.act.Who.TheVariants as who
use Rattle.pulsar_calls.specs.Who.{rank}
use Rattle.pulsar_consumer_table.specs.Consumers as consumer
use Rattle.pulsar_consumer_table.specs.Consumers.{Consumers, Member, is_heard}
use Rattle.pulsar_producer_table.specs.Producers.{Producers, is_bare, is_held, joined, timeout_at}
use Rattle.pulsar_acts.specs.declared.settings.Settings.{Settings}
use Rattle.pulsar_acts.specs.declared.tables.Tables.{Tables}
use Rattle.pulsar_calls.specs.Content.{Shown, Retry}
use Rattle.pulsar_links.specs.Alarms.{set}
use Rattle.pulsar_links.specs.Kept.{addresses_of, links_in}
use Rattle.pulsar_producer_table.specs.KeptProducers.{producers_of}
use Rattle.pulsar_consumer_table.specs.KeptConsumers.{consumers_in}
use Rattle.pulsar_acts.specs.View.{Turned, View, alarms_on, alarms_rung, alarms_waiting, base_on, delay_with, keyed_for, member_made, pause_on, pause_rung, waits_on}
use Rattle.pulsar_machine.specs.Options.{Chosen}
use Rattle.pulsar_links.specs.Seats.{Seat, later, nobody}
use Rattle.pulsar_links.specs.Links.{change_in}
use Rattle.pulsar_plans.specs.Standing.{stand_of}

-- THE THINGS

abbrev pub chosen_of : Settings → Chosen
chosen_of s =
    record {
      base = s.base;
      auth = option_map authentication_values s.auth;
      connection = s.connection;
      operation = s.operation;
      outbound = s.outbound;
      seed = s.seed;
      first_number = s.first_number;
      now = s.start;
    }

abbrev pub view_of : Tables → View
view_of c =
    record {
      chosen = chosen_of c.settings;
      now = c.clock;
      stand = stand_of c.plans;
      calls = record { drawn = c.tickets; is_built = c.is_built; is_stopped = c.is_stopped };
      links = links_in c.links.started c.links.live;
      addresses = addresses_of c.addresses;
      alarms = c.alarms;
      consumers = consumers_in c.consumers.rows c.consumers.numbers;
      producers = producers_of c.producers;
    }

-- what a link turns whose next frame was read
abbrev pub welcomed : (link : ℕ) → Arrival → Option Seat → Option Turned
welcomed l a row = option_map (λ seat. record { link = l; key = address_key seat.address; change = change_in a; pause = None }) row

-- what is seen where an act has turned this
abbrev pub turned_view : Option Turned → View → View
turned_view t v =
    record v {
      addresses = record { base = λ key. base_on t key (v.addresses.base key); pause = λ l. pause_on t l (v.addresses.pause l) };
      alarms = alarms_on v.chosen v.now t v.alarms;
    }

-- behind so many retries another attempt is to follow that of a link, if one is
abbrev pub retry_shown : Chosen → (link : ℕ) → Option ℕ → List Shown
retry_shown o l None = []
retry_shown o l (Some n) = Retry l (delay_with o l n) ∷ []

abbrev pub retry_set : Chosen → (now link : ℕ) → Option ℕ → List (Alarm × ℕ) → List (Alarm × ℕ)
retry_set o now l None alarms = alarms
retry_set o now l (Some n) alarms = set (alarm.Retry l) (later now (delay_with o l n)) alarms

-- what is seen where an alarm has rung
abbrev pub rung_view : Alarm → View → View
rung_view a v =
    record v {
      addresses = record { base = v.addresses.base; pause = λ l. pause_rung true a l (v.addresses.pause l) };
      alarms = alarms_rung v.chosen v.now a v.alarms;
    }

-- what is stored at a topic producer may change by what is asked of it
abbrev pub fills : TopicAsk → Bool
fills TakeTurn = false
fills PassTurn = false
fills Draw = false
fills Recall = false
fills (Remake r) = false
fills Find = false
fills (Store e) = true
fills Flush = true
fills TakeBatch = false

-- and where what a topic producer stores waits from its first message on
abbrev pub waiting_from : (number : ℕ) → (was_bare : Bool) → View → View
waiting_from n was_bare v =
    record v {
      alarms = alarms_waiting v.now (timeout_at v.producers (v.producers.topics n)) n was_bare (is_bare (v.producers.topics n)) v.alarms;
    }

-- and where none is set any more
abbrev pub unset_view : View → View
unset_view v =
    record v {
      addresses = record { base = λ key. if waits_on v.addresses v.alarms key then nobody else v.addresses.base key; pause = λ l. None };
      alarms = [];
    }

-- no subscription lives on a link, and no topic producer has it
abbrev pub is_unused : (link : ℕ) → Consumers → Producers → Bool
is_unused l cs ps = not (is_heard cs l) && not (is_held ps l)

-- the end of such a link
abbrev pub unused_act : Consumers → Producers → ℕ → List Act
unused_act cs ps l = if is_unused l cs ps then Comes (ToLink l (Ends Idles)) ∷ [] else []

-- WHAT A VERDICT MAKES, with what is known beside

abbrev pub joins_as : Who → Member → Consumers → Consumers
joins_as (who.Call t) m cs = consumer.joined t m cs
joins_as (who.Consumer n t) m cs = cs
joins_as (who.Producer n) m cs = cs

abbrev pub joins_some : Who → Option Member → Consumers → Consumers
joins_some w None cs = cs
joins_some w (Some m) cs = joins_as w m cs

abbrev pub consumers_made : (ℕ → Option Seat) → Who → Makes → Consumers → Consumers
consumers_made live w m cs = joins_some w (member_made live cs.next_key m) (keyed_for m cs)

abbrev pub producers_made : Chosen → Who → Makes → Producers → Producers
producers_made o who Nothing ps = ps
producers_made o who Client ps = ps
producers_made o who (Consumer made) ps = ps
producers_made o who (RawConsumer link made) ps = ps
producers_made o who (Producer made) ps = joined (rank who).1 made o.seed o.first_number ps
