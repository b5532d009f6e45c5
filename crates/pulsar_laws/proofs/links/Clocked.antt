-- A link of which nothing came is only told the time, and reading it is the same when it was told that before.
use Rattle.std.proofs.Common.{◌≡◌, ◌∙◌, sym, ap, inl, inr, ℕ, ◌-◌, ◌==◌, List, [], ◌∷◌, ◌++◌, refl, arith, map, Bool, true, false, cond, nat_lt, Option, Some, None}
use Rattle.std.proofs.lemmas.Bool.{cases_Bool, eq-eqb, eqb-true}
use Rattle.std.proofs.lemmas.Bool.Decides.{nat_tests}
use Rattle.std.specs.List.{filter_map, flat_map}
use Rattle.std.specs.Option.{option_map, option_to_list}
use Rattle.pulsar_laws.proofs.ActWords.{Act, Comes, numbers_from, opens, Reads, ToLink}
use Rattle.pulsar_laws.proofs.RunWords.{after, Turned, turned, turned_by, View}
use Rattle.pulsar_laws.proofs.LinkWords.{address_key, arrival_at, Seat, took_some}
use Rattle.pulsar_frame.specs.Frame.{Front, Short, Refused, Whole, front}
use Rattle.pulsar_requests.specs.Waits.{later_of}
use Rattle.pulsar_session.specs.declared.states.Stage.{Stage}
use Rattle.pulsar_session.specs.declared.states.Stage.TheVariants.{Dialing, Handshaking, Ready, Over}
use Rattle.pulsar_session.specs.Link as session
use Rattle.pulsar_session.specs.Link.{Came, Seen, came, came_in, taken_in, takes, ticked}
use Rattle.pulsar_calls.specs.declared.act.Arrival.TheVariants.{Nothing}
use Rattle.pulsar_calls.specs.declared.effect.Settlement.TheVariants as settlement
use Rattle.pulsar_links.specs.Links.{arrives, change_in, queues, queues_at, settled_in, settles}
use Rattle.pulsar_links.specs.LinkRules.{answered_by}
use Rattle.pulsar_links.specs.Seats.{askers_left, got_since, ping_left, seat_read}
use Rattle.pulsar_consumer_table.specs.Consumers as consumer
use Rattle.pulsar_consumer_table.specs.Consumers.{Member, at_row, over_rows}
use Rattle.pulsar_consumer_table.specs.Notices.{heard_at}
use Rattle.pulsar_acts.specs.Rules.{breaks_at, reads_on, served_on, waiters_of}
use Rattle.pulsar_acts.specs.View.{alarms_on, base_on, pause_on}
use Rattle.pulsar_laws.proofs.links.Ahead.{Ruled, only, ruled}
use Rattle.pulsar_acts.proofs.Linking.{took_is}

-- it is told the time
abbrev pub clocked : ℕ → Seat → Seat
clocked now seat = record seat { seen = ticked now seat.seen }

-- a row, where it is that of the link
abbrev pub on : (Seat → Seat) → Bool → Option Seat → Option Seat
on f b row = cond b (option_map f row) row

abbrev pub read_on : (now : ℕ) → Bool → Option Seat → Option Seat
read_on now b row = cond b (took_some Reads now row) row

-- one link of a view
abbrev pub moved : ℕ → (Seat → Seat) → View → View
moved l f v =
    record v { links = record { started = v.links.started; live = λ k. cond (k == l) (option_map f (v.links.live k)) (v.links.live k) } }

twice : (c now : ℕ) → later_of (later_of c now) now ≡ later_of c now
twice c now = elim (cases_Bool (nat_lt c now)) [
  | inl e ↦ rw e (let f : nat_lt now now ≡ false = grind (arith, nat_tests) in rw f refl)
  | inr e ↦ rw e (rw e refl)
]

ticked_twice : (now : ℕ) (v : Seen) → ticked now (ticked now v) ≡ ticked now v
ticked_twice now v = ap (λ c. record v { waits = record v.waits { clock = c } }) (twice v.waits.clock now)

came_so : (stage : Stage) (f : Front) (now : ℕ) (v : Seen) → came_in stage f (ticked now v) ≡ came_in stage f v
came_so Dialing f now v = refl
came_so Handshaking Short now v = refl
came_so Handshaking (Refused r) now v = refl
came_so Handshaking (Whole m rest) now v = refl
came_so Ready Short now v = refl
came_so Ready (Refused r) now v = refl
came_so Ready (Whole m rest) now v = refl
came_so Over f now v = refl

came_clocked : (now : ℕ) (v : Seen) → came (ticked now v) ≡ came v
came_clocked now v = came_so v.stage (front v.unread) now v

takes_clocked : (now : ℕ) (v : Seen) → takes now (ticked now v) ≡ takes now v
takes_clocked now v = ap (taken_in v.stage (front v.unread)) (ticked_twice now v)

read_clocked : (now : ℕ) (seat : Seat) → seat_read now (clocked now seat) ≡ seat_read now seat
read_clocked now seat = λ i. record {
  address = seat.address;
  seen = takes_clocked now seat.seen i;
  askers = askers_left (settled_in (came_clocked now seat.seen i)) seat.askers;
  got = got_since (change_in (arrives (came_clocked now seat.seen i))) now seat.got;
  ping = ping_left (settled_in (came_clocked now seat.seen i)) seat.ping;
}

-- what is turned by reading a link of which this came
abbrev pub turned_as : ℕ → Seat → Came → Turned
turned_as l seat c = record { link = l; key = address_key seat.address; change = change_in (arrives c); pause = None }

-- what arises from it
abbrev ruled_as : ℕ → View → Seat → Came → Seen → Ruled
ruled_as l v seat c read =
    record {
      once = breaks_at l (arrives c);
      joined = [];
      caused =
          opens
          ((answered_by c seat.askers ++ waiters_of served_on v.addresses (Some (turned_as l seat c))) ++ over_rows (heard_at l (arrives c)) v.consumers);
      more = reads_on l (arrives c);
      shown = (map (settles l settlement.Reply) (settled_in c) ++ queues l seat.seen read) ++ [];
    }

module _ (l : ℕ) where
  itself : (l == l) ≡ true
  itself = eq-eqb l l refl

  abbrev R : Act
  R = Comes (ToLink l Reads)

  -- the row of the link itself, and the others
  pub rows_with : (live : ℕ → Option Seat) (row : Option Seat) (f g : Bool → Option Seat → Option Seat) → live l ≡ row → f true row ≡ g true row →
      ((r : Option Seat) → f false r ≡ g false r) → (k : ℕ) → f (k == l) (live k) ≡ g (k == l) (live k)
  rows_with live row f g e same apart k = elim (cases_Bool (k == l)) [
    | inl h ↦ (let here : live k ≡ row = ap live (eqb-true k l h) ∙ e in (λ i. f (h i) (here i)) ∙ same ∙ sym (λ i. g (h i) (here i)))
    | inr h ↦ ap (λ c. f c (live k)) h ∙ apart (live k) ∙ sym (ap (λ c. g c (live k)) h)
  ]

  pub own_row : {A : Type 0} (f : A) (g : A) → cond (l == l) f g ≡ f
  own_row f g = ap (λ b. cond b f g) itself

  module _ (v : View) (seat : Seat) (live : v.links.live l ≡ Some seat) where
    -- READING IT AGAIN

    abbrev told : View
    told = moved l (clocked v.now) v

    told_row : told.links.live l ≡ Some (clocked v.now seat)
    told_row = own_row (option_map (clocked v.now) (v.links.live l)) (v.links.live l) ∙ ap (option_map (clocked v.now)) live

    pub again_ruled : ruled told R ≡ ruled v R
    again_ruled =
        ap (λ r. ruled (only v r) R) told_row
        ∙ (λ i. ruled_as l v seat (came_clocked v.now seat.seen i) (takes_clocked v.now seat.seen i))
        ∙ sym (ap (λ r. ruled (only v r) R) live)

    turned_same : turned told R ≡ turned v R
    turned_same =
        ap (option_map (turned_by v.chosen v.addresses v.now l Reads)) told_row
        ∙ ap (λ c. Some (turned_as l seat c)) (came_clocked v.now seat.seen)
        ∙ sym (ap (option_map (turned_by v.chosen v.addresses v.now l Reads)) live)

    arrival_same : arrival_at (told.links.live l) ≡ arrival_at (v.links.live l)
    arrival_same = ap arrival_at told_row ∙ ap arrives (came_clocked v.now seat.seen) ∙ sym (ap arrival_at live)

    rows_same : (k : ℕ) → (after R told).links.live k ≡ (after R v).links.live k
    rows_same k =
        took_is told l Reads k
        ∙ rows_with v.links.live (Some seat) (λ c r. read_on v.now c (on (clocked v.now) c r)) (read_on v.now) live (ap Some (read_clocked v.now seat))
        (λ r. refl) k
        ∙ sym (took_is v l Reads k)

    pub again_after : after R told ≡ after R v
    again_after = λ i. record (after R v) {
      links = record { started = v.links.started; live = λ k. rows_same k i };
      addresses = record { base = λ key. base_on (turned_same i) key (v.addresses.base key); pause = λ m. pause_on (turned_same i) m (v.addresses.pause m) };
      alarms = alarms_on v.chosen v.now (turned_same i) v.alarms;
      consumers = consumer.all_changed (consumer.hears l (arrival_same i)) v.consumers;
    }

    -- NOTHING CAME OF IT

    module _ (nothing : came seat.seen ≡ session.Nothing) (stays : takes v.now seat.seen ≡ ticked v.now seat.seen) where
      turned_none : turned v R ≡ Some (turned_as l seat session.Nothing)
      turned_none = ap (option_map (turned_by v.chosen v.addresses v.now l Reads)) live ∙ ap (λ c. Some (turned_as l seat c)) nothing

      either : {A : Type 0} (b : Bool) (x : A) → cond b x x ≡ x
      either true x = refl
      either false x = refl

      base_same : (key : List ℕ) → base_on (turned v R) key (v.addresses.base key) ≡ v.addresses.base key
      base_same key = ap (λ t. base_on t key (v.addresses.base key)) turned_none ∙ either _ (v.addresses.base key)

      pause_same : (m : ℕ) → pause_on (turned v R) m (v.addresses.pause m) ≡ v.addresses.pause m
      pause_same m = ap (λ t. pause_on t m (v.addresses.pause m)) turned_none

      unheard : (row : Option Member) → option_map (consumer.hears l Nothing) row ≡ row
      unheard None = refl
      unheard (Some m) = refl

      consumers_same : consumer.all_changed (consumer.hears l (arrival_at (v.links.live l))) v.consumers ≡ v.consumers
      consumers_same =
          ap (λ a. consumer.all_changed (consumer.hears l a) v.consumers) (ap arrival_at live ∙ ap arrives nothing)
          ∙ (λ i. record v.consumers { rows = λ u. unheard (v.consumers.rows u) i })

      read_same : took_some Reads v.now (Some seat) ≡ Some (clocked v.now seat)
      read_same = λ i. Some (record {
        address = seat.address;
        seen = stays i;
        askers = askers_left (settled_in (nothing i)) seat.askers;
        got = got_since (change_in (arrives (nothing i))) v.now seat.got;
        ping = left_ping seat.ping i;
      })
        where
          left_ping : (p : Option ℕ) → ping_left (settled_in (came seat.seen)) p ≡ p
          left_ping None = refl
          left_ping (Some p) = ap (λ c. ping_left (settled_in c) (Some p)) nothing

      pub none_after : after R v ≡ moved l (clocked v.now) v
      none_after = λ i. record (after R v) {
        links =
            record {
              started = v.links.started;
              live = λ k. (took_is v l Reads k ∙ rows_with v.links.live (Some seat) (read_on v.now) (on (clocked v.now)) live read_same (λ r. refl) k) i;
            };
        addresses = record { base = λ key. base_same key i; pause = λ m. pause_same m i };
        alarms = ap (λ t. alarms_on v.chosen v.now t v.alarms) turned_none i;
        consumers = consumers_same i;
      }

      no_words : (t : ℕ) (row : Option Member) → flat_map (heard_at l Nothing t) (option_to_list row) ≡ []
      no_words t None = refl
      no_words t (Some m) = refl

      none_heard : (ts : List ℕ) → flat_map (at_row (heard_at l Nothing) v.consumers.rows) ts ≡ []
      none_heard [] = refl
      none_heard (t ∷ ts) = ap (λ ns. ns ++ flat_map (at_row (heard_at l Nothing) v.consumers.rows) ts) (no_words t (v.consumers.rows t)) ∙ none_heard ts

      no_places : (n : ℕ) → n - n ≡ 0
      no_places n = omega arith

      pub none_ruled : ruled v R ≡ record { once = []; joined = []; caused = []; more = []; shown = [] }
      none_ruled =
          ap (λ r. ruled (only v r) R) live
          ∙ (λ i. ruled_as l v seat (nothing i) (stays i))
          ∙ (λ i. record {
            once = [];
            joined = [];
            caused = opens (none_heard v.consumers.tickets i);
            more = [];
            shown = none_shown i;
          })
        where
          none_shown : queues l seat.seen (ticked v.now seat.seen) ++ [] ≡ []
          none_shown =
              ap (λ n. filter_map (queues_at l (ticked v.now seat.seen)) (numbers_from seat.seen.waits.queued n) ++ []) (no_places seat.seen.waits.queued)
