-- For the code's contracts alone: what its parsed values stand for.
use Rattle.std.specs.Prelude.{◌≡◌, ◌==◌, ℕ, List, Option, Some, None, Bool, true, false, map, string_bytes, Vec}
use Rattle.std.specs.List.{All}
use Rattle.std.specs.Option.{option_map}
use Rattle.pulsar_wire.specs.Row.{Values}
use Rattle.pulsar_wire.specs.Rows.{message_id}
use Rattle.pulsar_wire.specs.Views.{message_id_values}
use Rattle.pulsar_wire.specs.declared.commands.ids.MessageIdData.{MessageIdData}
use Rattle.pulsar_messages.specs.Content.{authentication_values, consumer_options_values, message_content}
use Rattle.pulsar_calls.specs.Content.{heard}
use Rattle.pulsar_grammar.specs.Words.{digits_from, in_range}
use Rattle.pulsar_incoming.specs.Content.{consumer_wanted}
use Rattle.pulsar_outgoing.specs.Wanted.{producer_wanted}
use Rattle.pulsar_grammar.specs.ConsumerWords.{Subscriber, Draft as ConsumerDraft}
use Rattle.pulsar_grammar.specs.MessageWords.{Draft}
use Rattle.pulsar_grammar.specs.ProducerWords.{Draft as ProducerDraft}
use Rattle.pulsar_grammar.specs.Grammar.{Setting, Url, Auth, Outbound, Timeout, RetryDelay, OpRetries, Retries, MinBackoff, MaxBackoff, ConnectionTimeout, KeepAlive, MaxIdle, Seed, First, Now, Line, Nothing, Sets, Happens, Refused}
use Rattle.pulsar_grammar.specs.declared.consumer.Draft.{Draft as ParsedConsumer}
use Rattle.pulsar_grammar.specs.declared.consumer.Subscriber.{Subscriber as ParsedSubscriber}
use Rattle.pulsar_grammar.specs.declared.line.Line.{Line as Parsed}
use Rattle.pulsar_grammar.specs.declared.line.Line.TheVariants as parsed
use Rattle.pulsar_grammar.specs.declared.message.Draft.{Draft as ParsedDraft}
use Rattle.pulsar_grammar.specs.declared.producer.Draft.{Draft as ParsedProducer}
use Rattle.pulsar_grammar.specs.declared.setting.Setting.{Setting as ParsedSetting}
use Rattle.pulsar_grammar.specs.declared.setting.Setting.TheVariants as setting

-- the ids of a list
abbrev pub ids_of : {Z : Type 0} → Vec MessageIdData Z → List (Values message_id)
ids_of ids = map message_id_values ids.items

-- what the words of a message so far say
abbrev pub draft_of : ParsedDraft → Draft
draft_of d = record { message = message_content d.message; has_data = d.has_data }

-- and those of a producer
abbrev pub producer_draft_of : ParsedProducer → ProducerDraft
producer_draft_of d = record { wanted = producer_wanted d.builder; has_block = d.has_block }

-- and those of a consumer
abbrev pub consumer_draft_of : ParsedConsumer → ConsumerDraft
consumer_draft_of d = record { wanted = consumer_wanted d.builder; has_position = d.has_position }

-- what they say with a word more, unless that was refused
abbrev pub taken_in : (taken : Bool) → ConsumerDraft → Option ConsumerDraft
taken_in true d = Some d
taken_in false d = None

abbrev pub subscriber_of : ParsedSubscriber → Subscriber
subscriber_of s = record { name = option_map string_bytes s.name; options = consumer_options_values s.options }

-- what a parsed setting is, and a parsed line
abbrev pub setting_of : ParsedSetting → Setting
setting_of (setting.Url text) = Url (string_bytes text)
setting_of (setting.Auth credential) = Auth (authentication_values credential)
setting_of (setting.Outbound size) = Outbound size
setting_of (setting.Timeout time) = Timeout time
setting_of (setting.RetryDelay time) = RetryDelay time
setting_of (setting.OpRetries most) = OpRetries most
setting_of (setting.Retries most) = Retries most
setting_of (setting.MinBackoff time) = MinBackoff time
setting_of (setting.MaxBackoff time) = MaxBackoff time
setting_of (setting.ConnectionTimeout time) = ConnectionTimeout time
setting_of (setting.KeepAlive time) = KeepAlive time
setting_of (setting.MaxIdle time) = MaxIdle time
setting_of (setting.Seed seed) = Seed seed
setting_of (setting.First number) = First number
setting_of (setting.Now time) = Now time

abbrev pub line_of : Parsed → Line
line_of parsed.Nothing = Nothing
line_of (parsed.Sets s) = Sets (setting_of s)
line_of (parsed.Happens e) = Happens (heard e)
line_of parsed.Refused = Refused

-- the number of the digits that follow those that were read
abbrev pub more_digits : Option ℕ → List ℕ → Option ℕ
more_digits None ds = None
more_digits (Some n) ds = in_range (digits_from n ds)

-- there is no line feed
abbrev pub IsWithinLine : List ℕ → Type 0
IsWithinLine bytes = All (λ b. (b == 10) ≡ false) bytes
