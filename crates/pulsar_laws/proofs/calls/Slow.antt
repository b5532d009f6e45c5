-- A send that finds no room, and is not to wait, leaves all as it was.
use Rattle.std.proofs.Common.{◌≡◌, ◌∙◌, ap, ℕ, refl, ◌==◌, cond, Option, Some, None, Err, inl, inr}
use Rattle.std.proofs.lemmas.Bool.{cases_Bool, eqb-true}
use Rattle.std.specs.Option.{option_map}
use Rattle.pulsar_laws.proofs.ActWords.{Ask, Does, Who}
use Rattle.pulsar_laws.proofs.RunWords.{View, after, view}
use Rattle.pulsar_laws.proofs.LinkWords.{answer_at, closed_consumer, is_asked, place_of, Seat, seat_asked, Words}
use Rattle.pulsar_wire.specs.declared.error.ConnectionError.TheVariants as error
use Rattle.pulsar_session.proofs.Others.{slow_down_changes_nothing}
use Rattle.pulsar_exchange.specs.Request.{is_awaited}
use Rattle.pulsar_laws.specs.ProducerLaws.{SlowDownLeavesAll, seat_ticked}
use Rattle.pulsar_consumer_table.specs.Consumers.{Member, closes}
use Rattle.pulsar_links.specs.Seats.{asker_at}
use Rattle.pulsar_acts.proofs.Linking.{asked_is}

module _ (who : Who) (now l : ℕ) (request : Words) where
  seat_slow : (row : Option Seat) → answer_at now request row ≡ Err error.SlowDown →
      option_map (seat_asked who now request) row ≡ option_map (seat_ticked now) row
  seat_slow None h i = None
  seat_slow (Some seat) h i = Some (record {
    address = seat.address;
    seen = slow_down_changes_nothing now request seat.seen h i;
    askers = (ap (λ r. asker_at (is_awaited request) who (place_of r) seat.askers) h) i;
    got = seat.got;
    ping = seat.ping;
  })

  row_slow : (live : ℕ → Option Seat) (k : ℕ) → answer_at now request (live l) ≡ Err error.SlowDown →
      cond (k == l) (option_map (seat_asked who now request) (live k)) (live k) ≡ cond (k == l) (option_map (seat_ticked now) (live k)) (live k)
  row_slow live k h = elim (cases_Bool (k == l)) [
    | inl e ↦ rw e (seat_slow (live k) (ap (λ n. answer_at now request (live n)) (eqb-true k l e) ∙ h))
    | inr e ↦ rw e refl
  ]

  hears_slow : (row : Option Seat) (m : Option Member) → answer_at now request row ≡ Err error.SlowDown →
      option_map (closes (closed_consumer request) l (is_asked (answer_at now request row))) m ≡ m
  hears_slow row None h = refl
  hears_slow row (Some m) h = ap (λ r. Some (closes (closed_consumer request) l (is_asked r) m)) h

pub slow_down_lem : SlowDownLeavesAll
slow_down_lem o log who l request h i =
    let v : View = view o log in
    record (after (Does who (Ask l request)) v) {
      links = record { started = v.links.started; live = λ k. (asked_is v who l request k ∙ row_slow who v.now l request v.links.live k h) i };
      consumers = record v.consumers { rows = λ t. hears_slow who v.now l request (v.links.live l) (v.consumers.rows t) h i };
    }
