-- What is told of consumers to those whom an act serves is a word, or that the client is stopped.
use Rattle.std.proofs.Common.{◌≡◌, ℕ, List, [], ◌∷◌, refl, map, Bool, true, false, Option, Some, None}
use Rattle.std.specs.Option.{option_map, option_to_list}
use Rattle.pulsar_laws.proofs.ActWords.{Act, Answers, Ask, Comes, Does, End, FailConsumer, Makes, Notice, Outcome, Polls, Revive, ticket_of, Who, Word, OfConsumer}
use Rattle.pulsar_laws.proofs.RunWords.{Each, each_append, each_flat, joins, lost_on, member_on, setup_of, stopped_on, View}
use Rattle.pulsar_laws.proofs.LinkWords.{answer_at, arrival_at, closed_consumer, closing, is_asked, Seat, url_at}
use Rattle.url.specs.Parts.{Parts}
use Rattle.pulsar_consumer.specs.Topic as reader
use Rattle.pulsar_calls.specs.declared.act.Makes.TheVariants as makes
use Rattle.pulsar_calls.specs.declared.act.Outcome.TheVariants as outcome
use Rattle.pulsar_calls.specs.declared.act.Word.TheVariants as word
use Rattle.pulsar_consumer_table.specs.Consumers as consumer
use Rattle.pulsar_consumer_table.specs.Consumers.{Consumers, Member, at_row, over_rows}
use Rattle.pulsar_calls.specs.Notices.{stopped_one}
use Rattle.pulsar_consumer_table.specs.Notices.{again, again_at, due_at, due_to, heard_at, lost_at, stopped_seekers, word_to}
use Rattle.pulsar_acts.specs.Reading.{closed_at, heard_on, made_due}

-- whatever each consumer gives
pub rows_each : {A : Type 0} (P : A → Type 0) (f : ℕ → Member → List A) (cs : Consumers) → ((t : ℕ) (m : Member) → Each P (f t m)) → Each P (over_rows f cs)
rows_each P f cs h = each_flat P (at_row f cs.rows) cs.tickets (λ t. each_flat P (f t) (option_to_list (cs.rows t)) (h t))

abbrev pub is_word : Outcome → Bool
is_word (outcome.Word w) = true
is_word _ = false

abbrev pub IsWord : Notice → Type 0
IsWord n = is_word n.outcome ≡ true

one_word : (t : ℕ) (m : Member) (w : Option Word) → Each IsWord (word_to t m w)
one_word t m None = tt
one_word t m (Some w) = (refl, tt)

due_word : (t : ℕ) (row : Option Member) → Each IsWord (due_at t row)
due_word t row =
    each_flat IsWord (due_to t) (option_to_list row) (λ m. one_word t m (consumer.word_if (reader.is_due m.seen) word.Due))

again_words : (ws : List Who) → Each IsWord (map again ws)
again_words [] = tt
again_words (w ∷ ws) = (refl, again_words ws)

made_word : (live : ℕ → Option Seat) (key : ℕ) (who : Who) (m : Makes) → Each IsWord (made_due live key who m)
made_word live key who (makes.Consumer j) =
    one_word (ticket_of who) (member_on live j.link (setup_of key j))
    (consumer.word_if (reader.is_due (member_on live j.link (setup_of key j)).seen) word.Due)
made_word live key who _ = tt

pub heard_words : (v : View) (l : ℕ) → Each IsWord (heard_on v l)
heard_words v l =
    let a = arrival_at (v.links.live l) in
    rows_each IsWord (heard_at l a) v.consumers (λ t m. one_word t m (consumer.word_of l a m))

pub lost_words : (v : View) (l : ℕ) (end : End) → Each IsWord (lost_on v l end)
lost_words v l end =
    let c = closing end v.now (v.links.live l) in
    rows_each IsWord (lost_at l c) v.consumers (λ t m. one_word t m (consumer.word_of_loss l c m))

-- those who join a cause: a consumer of which this is so, and those who look for its link once more
abbrev pub is_worded : Act → Bool
is_worded (Comes (Polls t)) = true
is_worded (Does who (Ask l request)) = true
is_worded (Does who (OfConsumer (Revive l))) = true
is_worded (Does who (OfConsumer (FailConsumer f))) = true
is_worded (Answers who verdict) = true
is_worded _ = false

pub joins_words : (v : View) (a : Act) → is_worded a ≡ true → Each IsWord (joins v a)
joins_words v (Comes (Polls t)) h = due_word t (option_map (consumer.member_after (reader.Polls v.now)) (v.consumers.rows t))
joins_words v (Does who (Ask l request)) h =
    let asked : Bool = is_asked (answer_at v.now request (v.links.live l)) in
    rows_each IsWord (closed_at v l request) v.consumers (λ t m. one_word t m (consumer.word_of_close (closed_consumer request) l asked m))
joins_words v (Does who (OfConsumer (Revive l))) h =
    let row : Option Member = v.consumers.rows (ticket_of who) in
    let url : Option Parts = url_at (v.links.live l) in
    each_append IsWord (again_at row) (due_at (ticket_of who) (option_map (consumer.revived l url) row)) (again_words (consumer.seekers_at row))
    (due_word (ticket_of who) (option_map (consumer.revived l url) row))
joins_words v (Does who (OfConsumer (FailConsumer f))) h = again_words (consumer.seekers_at (v.consumers.rows (ticket_of who)))
joins_words v (Answers who verdict) h = made_word v.links.live v.consumers.next_key who verdict.makes
joins_words v a h = absurd cc

-- THE STOP

abbrev pub is_stopped_word : Outcome → Bool
is_stopped_word outcome.Stopped = true
is_stopped_word _ = false

abbrev pub IsStoppedWord : Notice → Type 0
IsStoppedWord n = is_stopped_word n.outcome ≡ true

each_stopped : (ws : List Who) → Each IsStoppedWord (map stopped_one ws)
each_stopped [] = tt
each_stopped (w ∷ ws) = (refl, each_stopped ws)

pub stopped_words : (v : View) → Each IsStoppedWord (stopped_on v)
stopped_words v = rows_each IsStoppedWord stopped_seekers v.consumers (λ t m. each_stopped m.seekers)
