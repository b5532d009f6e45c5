-- A consumer ends at one of the acts that end it, and stays so; and its permits are in bounds.
use Rattle.std.proofs.Common.{◌≡◌, ◌≤◌, ℕ, ◌+◌, ◌-◌, ◌∙◌, sym, ap, subst, List, [], ◌∷◌, ◌++◌, refl, arith, Bool, true, false, ◌&&◌, ◌||◌, cond, Option, Some, None, ◌==◌, append_assoc}
use Rattle.std.specs.Option.{is_some, option_or}
use Rattle.pulsar_laws.proofs.ActWords.{Act, Arrival}
use Rattle.pulsar_laws.proofs.RunWords.{Begins, EndsOnce, Entry, IsRun, Options, Then, view, View}
use Rattle.pulsar_laws.proofs.LinkWords.{Fault, is_body, Reply, url_at}
use Rattle.url.specs.Parts.{Parts}
use Rattle.pulsar_messages.specs.Claims.{is_spent}
use Rattle.pulsar_consumer.specs.Frames.{frame_in, failed}
use Rattle.pulsar_consumer.specs.Topic as reader
use Rattle.pulsar_consumer.specs.Topic.{Act as Done, Lives, Hears, Loses, Fails, Ends as Over, Polls as Polled, Asks, IsAt, TakesCopy, IsCopied, FailsCopy, Stops, Forgets, Checks, Seen, Setup, after, batch_size, first_of, fresh, half, is_ended, link_of, lives_on, loses, seen}
use Rattle.pulsar_consumer.specs.Laws.{arrivals as arrivals_in}
use Rattle.pulsar_incoming.specs.declared.polled.Ending.{Ending}
use Rattle.pulsar_incoming.specs.declared.polled.Ending.TheVariants.{Closed, LinkLost, NotSubscribed, Stopped, TopicEnded}
use Rattle.pulsar_consumer.proofs.Checking.{same_after, setup_is}
use Rattle.pulsar_consumer.proofs.Counted.{permits_are_counted}
use Rattle.pulsar_consumer.proofs.Granting.{permits_in_bounds}
use Rattle.pulsar_consumer.proofs.Histories.{counted_same, end_is_final}
use Rattle.pulsar_consumer.proofs.Plain.{plain_gives_all}
use Rattle.pulsar_calls.specs.declared.act.Arrival.TheVariants as arrivals
use Rattle.pulsar_consumer_table.specs.Consumers.{Arrives, ClientStops, CloseAsked, Deed, FlowTaken, IsPolled, IsSought, LinkEnds, Member, NotRevived, Revived, is_closed_by, member_by, subscribed_on}
use Rattle.pulsar_run.specs.Things.{along}
use Rattle.pulsar_acts.specs.View.{member_acts}
use Rattle.pulsar_laws.proofs.Cases.{none_some, some_is}
use Rattle.pulsar_laws.proofs.calls.Ticketed.{consumer_ticket, older_ticket}
use Rattle.pulsar_laws.specs.ConsumerLaws.{ConsumersEnd, ConsumersRemain, PermitsAreKept, arrival_does, arrival_ends, does_to, done_to, ends_at, ends_by, frame_does, frame_ends, has_ended, loss_does, made_with, subscription_does}
use Rattle.pulsar_laws.proofs.consumers.Deeds.{deed_does, deed_ends, deeds_do, deeds_end, same_does, same_ends}
use Rattle.pulsar_laws.proofs.consumers.Lone.{IsKept, IsMade, IsNone, RowFrom, applied, applied_append, begun_rows, consumers_alone_lem, deeds_did, made_plain, row_from}

or_false : (b : Bool) → b ≡ (b || false)
or_false true = refl
or_false false = refl

or_true : (b : Bool) → true ≡ (b || true)
or_true true = refl
or_true false = refl

-- WHERE AN ACT ENDS ONE

abbrev closes_at : Done → Seen → Bool
closes_at (Lives l url) s = false
closes_at (Hears l f) s = false
closes_at (Loses l) s = lives_on l s && s.is_raw
closes_at (Fails f) s = true
closes_at (Over why) s = true
closes_at (Polled clock) s = false
closes_at Asks s = false
closes_at (IsAt clock) s = false
closes_at TakesCopy s = false
closes_at (IsCopied key clock) s = false
closes_at (FailsCopy key clock) s = false
closes_at Stops s = false
closes_at (Forgets id) s = false
closes_at (Checks clock) s = false

same_end : (b : Bool) (v w : Seen) → w.ended ≡ v.ended → is_ended (cond b w v) ≡ (is_ended v || false)
same_end true v w e = ap is_some e ∙ or_false (is_ended v)
same_end false v w e = or_false (is_ended v)

ended_or : (x : Option Ending) (why : Ending) → is_some (option_or x (Some why)) ≡ (is_some x || true)
ended_or None why = refl
ended_or (Some y) why = refl

loses_end : (v : Seen) → is_ended (loses v) ≡ (is_ended v || v.is_raw)
loses_end v = by v.is_raw
  where
    by : (b : Bool) → is_ended (cond b (reader.ends LinkLost v) (record v { engine = record v.engine { live = None } })) ≡ (is_ended v || b)
    by true = ended_or v.ended LinkLost
    by false = or_false (is_ended v)

lost_end : (b : Bool) (v : Seen) → is_ended (cond b (loses v) v) ≡ (is_ended v || (b && v.is_raw))
lost_end true v = loses_end v
lost_end false v = or_false (is_ended v)

fails_end : (b : Bool) (v w : Seen) → is_ended v ≡ b → is_ended w ≡ (is_ended v || true) → is_ended (cond b v w) ≡ (is_ended v || true)
fails_end true v w e f = e ∙ or_true (is_ended v)
fails_end false v w e f = f

after_ends : (act : Done) (s : Seen) → is_ended (after act s) ≡ (is_ended s || closes_at act s)
after_ends (Lives l url) s =
    elim (is_ended s) as
    (λ b. is_ended (cond b s (record s { engine = reader.lives l url s.engine })) ≡ (is_ended s || false))
    [ true ↦ or_false (is_ended s) | false ↦ or_false (is_ended s) ]
after_ends (Hears l f) s = same_end (lives_on l s) s (reader.heard f s) refl
after_ends (Loses l) s = lost_end (lives_on l s) s
after_ends (Fails f) s =
    fails_end (is_ended s) s (reader.ends NotSubscribed (record s { engine = reader.hears (failed f) s.engine })) refl (ended_or s.ended NotSubscribed)
after_ends (Over why) s = ended_or s.ended why
after_ends (Polled clock) s =
    ap is_some (counted_same (first_of s.engine.unread) clock (record s { engine = reader.gives (reader.clocked clock s.engine) })).1 ∙ or_false (is_ended s)
after_ends Asks s = or_false (is_ended s)
after_ends (IsAt clock) s = or_false (is_ended s)
after_ends TakesCopy s = or_false (is_ended s)
after_ends (IsCopied key clock) s =
    same_end (s.key == key) s (record s { engine = reader.copied (reader.clocked clock s.engine) }) refl
after_ends (FailsCopy key clock) s =
    same_end (s.key == key) s (record s { engine = reader.copy_failed (reader.clocked clock s.engine) }) refl
after_ends Stops s = or_false (is_ended s)
after_ends (Forgets id) s = or_false (is_ended s)
after_ends (Checks clock) s = or_false (is_ended s)

-- one act or none
abbrev pub EndsSo : List Done → Seen → Bool → Type 0
EndsSo xs s b = is_ended (applied xs s) ≡ (is_ended s || b)

none_ends : (s : Seen) → EndsSo [] s false
none_ends s = or_false (is_ended s)

either_ends : (c : Bool) (xs ys : List Done) (s : Seen) (a b : Bool) → EndsSo xs s a → EndsSo ys s b → EndsSo (cond c xs ys) s (cond c a b)
either_ends true xs ys s a b p q = p
either_ends false xs ys s a b p q = q

when_ends : (c : Bool) (xs : List Done) (s : Seen) → EndsSo xs s true → EndsSo (cond c xs []) s c
when_ends true xs s p = p
when_ends false xs s p = none_ends s

frame_end : (l : ℕ) (r : Reply) (s : Seen) → EndsSo (frame_does l r s) s (frame_ends l r s)
frame_end l r s =
    either_ends (is_body 9 r.content.body) (Hears l (frame_in r) ∷ []) _ s false _ (after_ends (Hears l (frame_in r)) s)
    (either_ends (is_body 27 r.content.body) (cond (lives_on l s) (Over TopicEnded ∷ []) []) _ s (lives_on l s) _
    (when_ends (lives_on l s) (Over TopicEnded ∷ []) s (after_ends (Over TopicEnded) s))
    (either_ends (is_body 16 r.content.body) (Loses l ∷ []) [] s (lives_on l s && s.is_raw) false (after_ends (Loses l) s) (none_ends s)))

arrival_end : (l : ℕ) (a : Arrival) (s : Seen) → EndsSo (arrival_does l a s) s (arrival_ends l a s)
arrival_end l (arrivals.Gives n r) s = either_ends (s.number == n) (frame_does l r s) [] s (frame_ends l r s) false (frame_end l r s) (none_ends s)
arrival_end l arrivals.Nothing s = none_ends s
arrival_end l arrivals.Readied s = none_ends s
arrival_end l arrivals.Settles s = none_ends s
arrival_end l arrivals.Passes s = none_ends s
arrival_end l (arrivals.Bad cause) s = none_ends s

loss_end : (l : ℕ) (cause : Option Fault) (s : Seen) → EndsSo (loss_does l cause) s (is_some cause && (lives_on l s && s.is_raw))
loss_end l None s = none_ends s
loss_end l (Some cause) s = after_ends (Loses l) s

subscription_end : (l : ℕ) (url : Option Parts) (s : Seen) → EndsSo (subscription_does l url) s false
subscription_end l None s = none_ends s
subscription_end l (Some url) s = after_ends (Lives l url) s

deed_end : (d : Deed) (m : Member) → EndsSo (deed_does d m) m.seen (deed_ends d m)
deed_end (Arrives l a) m = arrival_end l a m.seen
deed_end (LinkEnds l cause) m = loss_end l cause m.seen
deed_end (CloseAsked closed l b) m = when_ends (b && is_closed_by closed l m) (Over Closed ∷ []) m.seen (after_ends (Over Closed) m.seen)
deed_end (IsPolled clock) m = after_ends (Polled clock) m.seen
deed_end (IsSought who) m = none_ends m.seen
deed_end FlowTaken m = after_ends Asks m.seen
deed_end (Revived l url) m = subscription_end l url m.seen
deed_end (NotRevived f) m = after_ends (Fails f) m.seen
deed_end ClientStops m = after_ends (Over Stopped) m.seen

or_next : (a b c : Bool) → ((a || b) || c) ≡ (a || (b || c))
or_next true b c = refl
or_next false b c = refl

deeds_ended : (ds : List Deed) (m : Member) → EndsSo (deeds_do ds m) m.seen (deeds_end ds m)
deeds_ended [] m = none_ends m.seen
deeds_ended (d ∷ ds) m =
    let n : Member = along member_by ds m in
    ap is_ended (applied_append (deed_does d n) (deeds_do ds m) m.seen)
    ∙ subst (λ s. EndsSo (deed_does d n) s (deed_ends d n)) (deeds_did ds m) (deed_end d n)
    ∙ ap (λ b. b || deed_ends d n) (deeds_ended ds m)
    ∙ or_next (is_ended m.seen) (deeds_end ds m) (deed_ends d n)

pub does_end : (v : View) (t : ℕ) (m : Member) (a : Act) → EndsSo (does_to v t m a) m.seen (ends_by v t m a)
does_end v t m a =
    ap (λ xs. is_ended (applied xs m.seen)) (same_does v t m a)
    ∙ deeds_ended (member_acts v t a) m
    ∙ ap (λ b. is_ended m.seen || b) (sym (same_ends v t m a))

-- ALONG A LOG

abbrev EndedAt : Options → List Entry → (ticket : ℕ) → Option Member → Type 0
EndedAt o log t None = has_ended o t log ≡ false
EndedAt o log t (Some m) = is_ended m.seen ≡ has_ended o t log

made_open : (l : ℕ) (url : Option Parts) (s : Setup) → is_ended (subscribed_on l url (record { seen = fresh s; seekers = [] })).seen ≡ false
made_open l None s = refl
made_open l (Some url) s = refl

module _ (once : EndsOnce) (o : Options) (t : ℕ) (un : is_spent t ≡ false) where
  has_more : (log : List Entry) (a : Act) (row : Option Member) → (view o log).consumers.rows t ≡ row →
      has_ended o t (Then a ∷ log) ≡ (has_ended o t log || ends_at (view o log) t row a)
  has_more log a row e = ap (λ r. has_ended o t log || ends_at (view o log) t r a) e

  ended_on : (log : List Entry) (a : Act) → RowFrom o log a t → EndedAt o log t ((view o log).consumers.rows t) →
      EndedAt o (Then a ∷ log) t ((view o (Then a ∷ log)).consumers.rows t)
  ended_on log a (IsNone e f) k =
      let was : has_ended o t log ≡ false = subst (EndedAt o log t) e k in
      subst (EndedAt o (Then a ∷ log) t) (sym f) (has_more log a None e ∙ ap (λ b. b || false) was)
  ended_on log a (IsMade s l e f how did) k =
      let was : has_ended o t log ≡ false = subst (EndedAt o log t) e k in
      subst (EndedAt o (Then a ∷ log) t) (sym f)
      (made_open l (url_at ((view o log).links.live l)) s ∙ sym (has_more log a None e ∙ ap (λ b. b || false) was))
  ended_on log a (IsKept m e r how did) k =
      let was : is_ended m.seen ≡ has_ended o t log = subst (EndedAt o log t) e k in
      subst (EndedAt o (Then a ∷ log) t) (sym r.is_it)
      (ap is_ended r.seen
      ∙ does_end (view o log) t m a
      ∙ ap (λ b. b || ends_by (view o log) t m a) was
      ∙ sym (has_more log a (Some m) e))

  ended : (log : List Entry) → IsRun o log → EndedAt o log t ((view o log).consumers.rows t)
  ended [] run = refl
  ended (Begins e ∷ log) run =
      subst (EndedAt o (Begins e ∷ log) t) (sym (begun_rows e (view o log) t)) (begun_so ((view o log).consumers.rows t) (ended log run.0))
    where
      begun_so : (row : Option Member) → EndedAt o log t row → EndedAt o (Begins e ∷ log) t row
      begun_so None k = k
      begun_so (Some m) k = k
  ended (Then a ∷ log) run = ended_on log a (row_from o log t once a un run) (ended log run.0)

pub consumers_end_lem : EndsOnce → ConsumersEnd
consumers_end_lem once o log t m run e = subst (EndedAt o log t) e (ended once o t (consumer_ticket o log t m run e) log run)

-- IT REMAINS

record Grown (o : Options) (later older : List Entry) (t : ℕ) : Type 0 where
  row : Member
  is_it : (view o (later ++ older)).consumers.rows t ≡ Some row
  more : List Done
  done : done_to o t (later ++ older) ≡ more ++ done_to o t older
  made : made_with o t (later ++ older) ≡ made_with o t older

grown_by : (o : Options) (later older : List Entry) (t : ℕ) (a : Act) → Grown o later older t → RowFrom o (later ++ older) a t →
    Grown o (Then a ∷ later) older t
grown_by o later older t a g (IsNone e f) = absurd (none_some (sym e ∙ g.is_it))
grown_by o later older t a g (IsMade s l e f how did) = absurd (none_some (sym e ∙ g.is_it))
grown_by o later older t a g (IsKept m e r how did) = record {
  row = r.row;
  is_it = r.is_it;
  more = does_to (view o (later ++ older)) t m a ++ g.more;
  done =
      did
      ∙ ap (λ h. does_to (view o (later ++ older)) t m a ++ h) g.done
      ∙ sym (append_assoc (does_to (view o (later ++ older)) t m a) g.more (done_to o t older));
  made = how ∙ g.made;
}

grows : EndsOnce → (o : Options) (later older : List Entry) (t : ℕ) (m : Member) → is_spent t ≡ false → IsRun o (later ++ older) →
    (view o older).consumers.rows t ≡ Some m → Grown o later older t
grows once o [] older t m un run e = record { row = m; is_it = e; more = []; done = refl; made = refl }
grows once o (Begins x ∷ later) older t m un run e =
    let g = grows once o later older t m un run.0 e in
    record { row = g.row; is_it = begun_rows x (view o (later ++ older)) t ∙ g.is_it; more = g.more; done = g.done; made = g.made }
grows once o (Then a ∷ later) older t m un run e =
    grown_by o later older t a (grows once o later older t m un run.0 e) (row_from o (later ++ older) t once a un run)

pub older_run : (o : Options) (later older : List Entry) → IsRun o (later ++ older) → IsRun o older
older_run o [] older run = run
older_run o (Begins e ∷ later) older run = older_run o later older run.0
older_run o (Then a ∷ later) older run = older_run o later older run.0

pub consumers_remain_lem : EndsOnce → ConsumersRemain
consumers_remain_lem once o later older t m run e =
    let g = grows once o later older t m (older_ticket o later older t m run e) run e in
    let k = consumers_alone_lem once o older t m (older_run o later older run) e in
    let j = consumers_alone_lem once o (later ++ older) t g.row run g.is_it in
    let same : j.0 ≡ k.0 = some_is (sym j.1 ∙ g.made ∙ k.1) in
    let now : g.row.seen ≡ seen k.0 (g.more ++ done_to o t older) =
    j.2 ∙ ap (λ s. seen s (done_to o t (later ++ older))) same ∙ ap (seen k.0) g.done in (
      k.0,
      g.row,
      g.is_it,
      g.made ∙ k.1,
      k.1,
      λ why is.
          (let x = end_is_final k.0 g.more (done_to o t older) why (ap (λ s. s.ended) (sym k.2) ∙ is) in
          (ap (λ s. s.ended) now ∙ x.0, ap link_of now ∙ x.1, ap (arrivals_in k.0) g.done ∙ x.2)),
    )

-- PERMITS

-- how it is made stays
abbrev pub KeepsMade : Seen → Seen → Type 0
KeepsMade v w = (v.is_raw ≡ w.is_raw) × (v.config ≡ w.config)

pub after_made : (act : Done) (v : Seen) → KeepsMade (after act v) v
after_made act v = let k = same_after act v in (ap (λ x. x.is_raw) k, ap (λ x. x.config) k)

pub seen_made : (s : Setup) (h : List Done) → ((seen s h).is_raw ≡ s.is_raw) × ((seen s h).config ≡ s.config)
seen_made s h = let k = setup_is s h in (ap (λ x. x.is_raw) k, ap (λ x. x.config) k)

less : (a b c : ℕ) → a ≤ c → a - b ≤ c
less a b c h = omega (arith, h)

pub permits_are_kept_lem : EndsOnce → PermitsAreKept
permits_are_kept_lem once o log t m l run e raw live =
    let k = consumers_alone_lem once o log t m run e in
    let h : List Done = done_to o t log in
    let made = seen_made k.0 h in
    let plain : k.0.is_raw ≡ false = sym made.0 ∙ ap (λ s. s.is_raw) (sym k.2) ∙ raw in
    let there : (seen k.0 h).engine.live ≡ Some l = ap (λ s. s.engine.live) (sym k.2) ∙ live in
    let config : m.seen.config ≡ k.0.config = ap (λ s. s.config) k.2 ∙ made.1 in
    let b = permits_in_bounds k.0 h l plain there in (
      k.0,
      k.1,
      subst (λ c. l.level - l.weight ≤ batch_size c) (sym config) (less l.level l.weight (batch_size k.0.config) b.0),
      λ done. subst (λ c. half (batch_size c) + l.weight ≤ l.level) (sym config) (b.1 (done, (plain_gives_all k.0 h (made_plain o t log k.0 k.1)).1)),
      permits_are_counted k.0 h l plain there,
    )
