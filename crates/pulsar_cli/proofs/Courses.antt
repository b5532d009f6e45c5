-- How the parts of a demo are put together. S and S' say what a client stands for before and after.
use Rattle.std.proofs.Common.{◌≡◌, ℕ, sym, subst, refl, Bool, false, List, [], ◌∷◌, map, Option, Some, None}
use Rattle.pulsar_calls.specs.declared.event.Event.{Event}
use Rattle.pulsar_calls.specs.declared.effect.Effect.{Effect}
use Rattle.pulsar_calls.specs.Content.{Ack, Asked, Build, Bytes, Called, CloseConsumer, CloseProducer, Consumer, Heard, Opened, Producer, heard, shown}
use Rattle.pulsar_calls.specs.Steps.{Step}
use Rattle.pulsar_client.specs.History.{step}
use Rattle.pulsar_cli.specs.Demo.{Asks, Begins, Closes, Comes, Drains, Exchange, Exchanges, IsAck, IsAnswered, Item, Next, Ordered, Owes, Polls, Receives, Round, Rounds, Sends, Turn, consumer_ticket, demo_consumer, demo_producer, item_of, piece_of, producer_ticket}
use Rattle.pulsar_cli.specs.declared.play.Play.{Play}
use Rattle.pulsar_cli.specs.Played.{Holds, Leads, LeadsBy, Plays}

-- a step of the client that is noted
pub plays-step : {S S' : List Step → Type 0} {seed count : ℕ} (x y : Event) (e : Heard) (es : List Effect) (p q : Play) → heard x ≡ e → heard y ≡ e → ((h : List Step) → S h → S' (step x es ∷ h)) → ((keeps : Bool) (h : List Step) → Holds keeps (piece_of (heard y)) seed count p h → IsAnswered (heard y) h → Holds keeps [] seed count q (step y es ∷ h)) → LeadsBy (λ k old new. new ≡ record { event = k; effects = map shown es } ∷ old) e S S' seed count p q
plays-step {S' = S'} {seed = seed} {count = count} x y e es p q hx hy on note keeps h plays said =
    let made = subst (λ (k : Heard). S' (record { event = k; effects = map shown es } ∷ h)) hx (on h plays.client) in
    let holds = subst (λ (k : Heard). Holds keeps (piece_of k) seed count p h → IsAnswered k h → Holds keeps [] seed count q (record { event = k; effects = map shown es } ∷ h)) hy (note keeps h) in
    (record { event = e; effects = map shown es } ∷ h, record { client = made; holds = holds plays.holds said }, refl)

-- a piece that comes
pub comes-none : (piece : List ℕ) (h : List Step) → piece ≡ [] → Comes piece h h
comes-none piece h e = subst (λ (t : List ℕ). Comes t h h) (sym e) refl

pub comes-some : (piece : List ℕ) (old new : List Step) → (piece ≡ [] → ⊥) → Next (Bytes 0 piece) old new → Comes piece old new
comes-some [] old new some next = absurd (some refl)
comes-some (b ∷ bs) old new some next = next

-- what is owed is taken from the broker
abbrev pub TakesOwed : (seed count : ℕ) → Play → Play → List ℕ → Type 0
TakesOwed seed count p q piece = (keeps : Bool) (h : List Step) → Holds keeps [] seed count p h → Owes h piece × Holds keeps piece seed count q h

-- nothing is owed
pub plays-quiet : {S : List Step → Type 0} {seed count : ℕ} (piece : List ℕ) (p q : Play) → piece ≡ [] → TakesOwed seed count p q piece → Leads Receives S S seed count p q
plays-quiet {S = S} {seed = seed} {count = count} piece p q none takes keeps h plays =
    let took = takes keeps h plays.holds in (
      h,
      record { client = plays.client; holds = subst (λ (t : List ℕ). Holds keeps t seed count q h) none took.1 },
      record { piece = piece; owes = took.0; comes = comes-none piece h none },
    )

-- what is owed comes
pub plays-piece : {S S' : List Step → Type 0} {seed count : ℕ} (piece : List ℕ) (e : Heard) (p q r : Play) → e ≡ Bytes 0 piece → (piece ≡ [] → ⊥) → TakesOwed seed count p q piece → LeadsBy Next e S S' seed count q r → Leads Receives S S' seed count p r
plays-piece {S = S} {S' = S'} {seed = seed} {count = count} piece e p q r is some takes by keeps h plays =
    let on = subst (λ (k : Heard). LeadsBy Next k S S' seed count q r) is by in
    let took = takes keeps h plays.holds in
    let after = on keeps h (record { client = plays.client; holds = took.1 }) (sym took.0) in
    (after.0, after.1, record { piece = piece; owes = took.0; comes = comes-some piece h after.0 some after.2 })

-- an exchange
pub plays-exchange : {S S' S'' : List Step → Type 0} {seed count : ℕ} (wrote : Bool) (p q r : Play) → Leads (Drains wrote) S S' seed count p q → Leads Receives S' S'' seed count q r → Leads (Exchange wrote) S S'' seed count p r
plays-exchange wrote p q r first second keeps h plays =
    let one = first keeps h plays in
    let two = second keeps one.0 one.1 in
    (two.0, two.1, record { middle = one.0; drains = one.2; receives = two.2 })

-- a turn
pub plays-turn : {S S' S'' : List Step → Type 0} {seed count : ℕ} (e : Heard) (p q r : Play) → LeadsBy Next e S S' seed count p q → Leads Exchanges S' S'' seed count q r → LeadsBy Turn e S S'' seed count p r
plays-turn e p q r first second keeps h plays said =
    let one = first keeps h plays said in
    let two = second keeps one.0 one.1 in
    (two.0, two.1, record { middle = one.0; first = one.2; others = two.2 })

-- the calls of the course
pub leads-build : {S S' : List Step → Type 0} {seed count : ℕ} (e : Heard) (p q : Play) → e ≡ Called Build → LeadsBy Next e S S' seed count p q → Leads (Next (Called Build)) S S' seed count p q
leads-build {S = S} {S' = S'} {seed = seed} {count = count} e p q is by keeps h plays = subst (λ (k : Heard). LeadsBy Next k S S' seed count p q) is by keeps h plays tt

pub leads-opened : {S S' : List Step → Type 0} {seed count : ℕ} (e : Heard) (p q : Play) → e ≡ Opened 0 → LeadsBy Turn e S S' seed count p q → Leads (Turn (Opened 0)) S S' seed count p q
leads-opened {S = S} {S' = S'} {seed = seed} {count = count} e p q is by keeps h plays = subst (λ (k : Heard). LeadsBy Turn k S S' seed count p q) is by keeps h plays tt

pub leads-called : {S S' : List Step → Type 0} {seed count : ℕ} (a : Asked) (e : Heard) (p q : Play) → e ≡ Called a → LeadsBy Turn e S S' seed count p q → Leads (Asks a) S S' seed count p q
leads-called {S = S} {S' = S'} {seed = seed} {count = count} a e p q is by keeps h plays = subst (λ (k : Heard). LeadsBy Turn k S S' seed count p q) is by keeps h plays tt

-- up to the producer
pub plays-begin : {S T U V : List Step → Type 0} {seed count : ℕ} (p q r t : Play) → Leads (Next (Called Build)) S T seed count p q → Leads (Turn (Opened 0)) T U seed count q r → Leads (Asks (Producer demo_producer)) U V seed count r t → Leads (λ none all. none ≡ [] → Begins all) S V seed count p t
plays-begin p q r t first second third keeps h plays =
    let one = first keeps h plays in
    let two = second keeps one.0 one.1 in
    let three = third keeps two.0 two.1 in (
      three.0,
      three.1,
      λ empty. record {
        built = one.0;
        build = subst (λ (x : List Step). Next (Called Build) x one.0) empty one.2;
        opened = two.0;
        opens = two.2;
        producer = three.2;
      },
    )

-- the closes
pub plays-close : {S T U : List Step → Type 0} {seed count : ℕ} (p q r : Play) → Leads (Asks (CloseConsumer (consumer_ticket count))) S T seed count p q → Leads (Asks (CloseProducer producer_ticket)) T U seed count q r → Leads (Closes count) S U seed count p r
plays-close p q r first second keeps h plays =
    let one = first keeps h plays in
    let two = second keeps one.0 one.1 in
    (two.0, two.1, record { middle = one.0; consumer = one.2; producer = two.2 })

-- the acknowledgement of a poll is a call
ack-called : (consumer : ℕ) (e : Heard) (i : Option Item) → IsAck consumer (Some e) i → (a : Asked) × (e ≡ Called a)
ack-called consumer e None wrong = absurd wrong
ack-called consumer e (Some item) is = (Ack consumer item.topic is.id false, is.asks)

-- a round
pub plays-round-none : {S T U : List Step → Type 0} {seed count : ℕ} (consumer : ℕ) (p q r : Play) → Leads (Polls consumer None) S T seed count p q → Leads Exchanges T U seed count q r → Leads (Round consumer) S U seed count p r
plays-round-none consumer p q r first second keeps h plays =
    let one = first keeps h plays in
    let two = second keeps one.0 one.1 in
    (two.0, two.1, record { ack = None; polled = one.0; polls = one.2; quiet = two.0; exchanges = two.2; acks = refl })

pub plays-round-some : {S T U V : List Step → Type 0} {seed count : ℕ} (consumer : ℕ) (e : Heard) (p q r t : Play) → Leads (Polls consumer (Some e)) S T seed count p q → Leads Exchanges T U seed count q r → LeadsBy Turn e U V seed count r t → Leads (Round consumer) S V seed count p t
plays-round-some {U = U} {V = V} {seed = seed} {count = count} consumer e p q r t first second third keeps h plays =
    let one = first keeps h plays in
    let two = second keeps one.0 one.1 in
    let called = ack-called consumer e (item_of one.2.effects) one.2.is_ack in
    let by = subst (λ (k : Heard). LeadsBy Turn k U V seed count r t) called.1 third in
    let three = by keeps two.0 two.1 tt in (
      three.0,
      three.1,
      record {
        ack = Some e;
        polled = one.0;
        polls = one.2;
        quiet = two.0;
        exchanges = two.2;
        acks = subst (λ (k : Heard). Turn k two.0 three.0) (sym called.1) three.2;
      },
    )

-- the whole course
pub plays-go : {S T U V W X : List Step → Type 0} {seed count : ℕ} (p q r t u v : Play) → Leads (λ none all. none ≡ [] → Begins all) S T seed count p q → Leads (Sends seed count) T U seed count q r → Leads (Asks (Consumer demo_consumer)) U V seed count r t → Leads (Rounds (consumer_ticket count) count) V W seed count t u → Leads (Closes count) W X seed count u v → Leads (λ none all. none ≡ [] → Ordered seed count all) S X seed count p v
plays-go p q r t u v first second third fourth fifth keeps h plays =
    let one = first keeps h plays in
    let two = second keeps one.0 one.1 in
    let three = third keeps two.0 two.1 in
    let four = fourth keeps three.0 three.1 in
    let five = fifth keeps four.0 four.1 in (
      five.0,
      five.1,
      λ empty. record {
        begun = one.0;
        begins = one.2 empty;
        sent = two.0;
        sends = two.2;
        consumed = three.0;
        consumer = three.2;
        polled = four.0;
        polls = four.2;
        closes = five.2;
      },
    )

-- rounds of a consumer by its ticket
pub leads-rounds : {S S' : List Step → Type 0} {seed all : ℕ} (n m count : ℕ) (p q : Play) → n ≡ m → Leads (Rounds n count) S S' seed all p q → Leads (Rounds m count) S S' seed all p q
leads-rounds {S = S} {S' = S'} {seed = seed} {all = all} n m count p q is by = subst (λ (k : ℕ). Leads (Rounds k count) S S' seed all p q) is by

-- a poll by how its item is to be acknowledged
pub polls-as : {S S' : List Step → Type 0} {seed count : ℕ} (consumer : ℕ) (a b : Option Heard) (p q : Play) → a ≡ b → Leads (Polls consumer a) S S' seed count p q → Leads (Polls consumer b) S S' seed count p q
polls-as {S = S} {S' = S'} {seed = seed} {count = count} consumer a b p q is by = subst (λ (k : Option Heard). Leads (Polls consumer k) S S' seed count p q) is by
