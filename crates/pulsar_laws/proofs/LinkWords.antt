-- Words of links, of what is exchanged there and of failures, passed on to the files of laws: where one moves, a line changes here.
pub use Rattle.pulsar_addresses.specs.Address.{Named, Place, address_key, is_reachable}
pub use Rattle.pulsar_exchange.specs.Messages.{Reply, is_body}
pub use Rattle.pulsar_exchange.specs.Request.{closed_consumer}
pub use Rattle.pulsar_links.specs.Alarms.{rings}
pub use Rattle.pulsar_links.specs.LinkRules.{over_links, stop_act, tells_asker, told_at}
pub use Rattle.pulsar_links.specs.Links.{Becomes, Change, IsOver, Remains, closed_by}
pub use Rattle.pulsar_links.specs.Seats.{Addresses, Base, Seat, answer_at, arrival_at, closing, got_at, is_asked, place_of, seat_asked, seat_fed, seat_got, took, took_end, took_some, url_at}
pub use Rattle.pulsar_links.specs.declared.addresses.Pause.{Pause}
pub use Rattle.pulsar_links.specs.declared.addresses.Series.{Series}
pub use Rattle.pulsar_links.specs.declared.addresses.Series.TheVariants.{Nobody, Pauses, Runs, Serves}
pub use Rattle.pulsar_messages.specs.Words.{SendPing, Words, is_numbered}
pub use Rattle.pulsar_wire.specs.Failures.{Exhausted, Failure, Fault, OfConnection}
pub use Rattle.pulsar_wire.specs.declared.error.ConnectionError.{ConnectionError}
