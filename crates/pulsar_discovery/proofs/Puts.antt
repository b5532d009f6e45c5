-- What is put where something was put before.
use Rattle.std.proofs.Common.{◌≡◌, ◌∙◌, ap, refl, ℕ, ◌+◌, Bool, true, false, Option, Some, None, ◌==◌, if◌then◌else◌, bytes_eq}
use Rattle.pulsar_session.specs.Link as session
use Rattle.pulsar_addresses.specs.Address.{Place, address_key}
use Rattle.pulsar_discovery.specs.declared.addresses.Phase.{Phase}
use Rattle.pulsar_discovery.specs.declared.addresses.Phase.TheVariants.{Runs}
use Rattle.pulsar_discovery.specs.Series.{IsSeries, Series, reseated, seat_of, without}
use Rattle.pulsar_discovery.specs.Manager.{GotValues, GotReady, GotStarted, GotWaiting, GotRefused, Is, Known, OnValues, setup, starts}
use Rattle.pulsar_wire.specs.Failures.{Io, SlowDown, Disconnected, PulsarError, Unexpected, Decoding, Encoding, SocketAddr, UnexpectedResponse, Authentication, NotFound, Canceled, Shutdown, Exhausted, NoMemory}

put_twice : {A : Type 0} (t : Bool) (x b f : Option A) → b ≡ (if t then None else f) → (if t then x else b) ≡ (if t then x else f)
put_twice true x b f e = refl
put_twice false x b f e = e

put_both : {A : Type 0} (t : Bool) (x y b f : Option A) → x ≡ y → b ≡ f → (if t then x else b) ≡ (if t then y else f)
put_both true x y b f e h = e
put_both false x y b f e h = h

pub reseated_behind : (a b k : Series) (l : ℕ) (p : Place) (phase : Option Phase) → IsSeries b (without l k) → IsSeries a (reseated l p phase b) → IsSeries a (reseated l p phase k)
reseated_behind a b k l p (Some phase) h g =
    record {
      link_of = λ key. g.link_of key ∙ h.link_of key;
      seat = λ n. g.seat n ∙ put_twice (n == l) (Some (seat_of p phase)) (b.seat n) (k.seat n) (h.seat n);
    }
reseated_behind a b k l p None h g =
    record {
      link_of = λ key. g.link_of key ∙ put_both (bytes_eq (address_key p) key) None None (b.link_of key) (k.link_of key) refl (h.link_of key);
      seat = λ n. g.seat n ∙ put_twice (n == l) None (b.seat n) (k.seat n) (h.seat n);
    }

pub starts_behind : (a b k : Known) (p : Place) (r now : ℕ) → Is b k → Is a (starts p r now b) → Is a (starts p r now k)
starts_behind a b k p r now h g =
    record {
      terms = g.terms ∙ h.terms;
      links = g.links ∙ ap (λ n. n + 1) h.links;
      series = record {
        link_of = λ key. g.series.link_of key ∙ put_both (bytes_eq (address_key p) key) (Some b.links) (Some k.links) (b.series.link_of key) (k.series.link_of key) (ap Some h.links) (h.series.link_of key);
        seat = λ n. g.series.seat n ∙ (ap (λ m. if n == m then Some (seat_of p (Runs r)) else b.series.seat n) h.links
            ∙ put_both (n == k.links) (Some (seat_of p (Runs r))) (Some (seat_of p (Runs r))) (b.series.seat n) (k.series.seat n) refl (h.series.seat n));
      };
      connection = λ n. g.connection n ∙ (ap (λ m. if n == m then Some (session.fresh (setup b.terms p m now)) else b.connection n) h.links
          ∙ put_both (n == k.links) (Some (session.fresh (setup b.terms p k.links now))) (Some (session.fresh (setup k.terms p k.links now))) (b.connection n) (k.connection n)
          (ap (λ t. Some (session.fresh (setup t p k.links now))) h.terms) (h.connection n));
    }

-- what holds is said of any answer
pub on_values : (v : GotValues) (X : Type 0) → X → OnValues v X
on_values (GotReady l) X x = x
on_values (GotStarted l) X x = x
on_values GotWaiting X x = x
on_values (GotRefused (Io kind)) X x = x
on_values (GotRefused SlowDown) X x = x
on_values (GotRefused Disconnected) X x = x
on_values (GotRefused (PulsarError e t)) X x = x
on_values (GotRefused (Unexpected t)) X x = x
on_values (GotRefused (Decoding r)) X x = x
on_values (GotRefused (Encoding r)) X x = x
on_values (GotRefused (SocketAddr t)) X x = x
on_values (GotRefused (UnexpectedResponse b)) X x = x
on_values (GotRefused (Authentication d)) X x = x
on_values (GotRefused NotFound) X x = x
on_values (GotRefused Canceled) X x = x
on_values (GotRefused Shutdown) X x = x
on_values (GotRefused Exhausted) X x = x
on_values (GotRefused NoMemory) X x = tt
