-- Words of runs, and of the view along them, passed on to the files of laws: where one moves, a line changes here.
pub use Rattle.pulsar_acts.specs.Reading.{lost_on, stopped_on}
pub use Rattle.pulsar_acts.specs.Rules.{asks_raw, asks_topics, at_once, builds_with, called, causes, checks, closes, does, fails_as, flushes, flushes_all, follows, follows_some, from_base, further, gathers, joins, left_with, notice, parts, parts_of, performs, procedure_for, produces, produces_from, readied, ready_notice, searches, sends, sends_as, sends_by, share, shares_of, shares_unless, starts, stores_as, tells, turn_notice, unless, unless_refused, why_no_raw, why_no_sends}
pub use Rattle.pulsar_acts.specs.Run.{Begins, Entry, IsRun, Then, agenda, rules, view}
pub use Rattle.pulsar_acts.specs.View.{Tickets, Turned, View, after, begun, begun_live, consumers_after, dialed, is_live, link_got, live_begun, may_call, member_on, producers_listed, room_of, setup_of, stays, stays_some, told_some, turned, turned_by, ways_of}
pub use Rattle.pulsar_agenda.specs.Agenda.{Agenda, first}
pub use Rattle.pulsar_client.proofs.Acts.{Each, StartsIn, begun_same, chosen_same, each_append, each_either, each_first, each_flat, each_map, each_rest, each_when, first_case, is_served, none_now, over_each}
pub use Rattle.pulsar_laws.proofs.calls.Causes.{Cause}
pub use Rattle.pulsar_laws.specs.Laws.{Answered, EndsOnce, calls_of, counted, start_of, started}
pub use Rattle.pulsar_machine.specs.Options.{Chosen, Options}
pub use Rattle.pulsar_run.specs.Laws.{Arises, In, InOne, InThisStep}
pub use Rattle.pulsar_run.specs.Order.{arranged, put_all}
pub use Rattle.pulsar_run.specs.Run.{first_of, rest, rest_of}
