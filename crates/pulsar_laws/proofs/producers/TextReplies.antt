-- The name that a broker gives to a producer is a text: so says the reply that comes on a link.
use Rattle.std.proofs.Common.{◌≡◌, ap, subst, ℕ, ◌==◌, List, [], ◌∷◌, refl, Bool, true, false, cond, Option, Some, None, Result, Ok, Err}
use Rattle.std.specs.Prelude.{unwrap_or}
use Rattle.pulsar_wire.specs.At.{text_at}
use Rattle.pulsar_wire.specs.Command.{BodyValues, CommandValues, command_reading}
use Rattle.pulsar_wire.specs.declared.error.Reason.{Reason}
use Rattle.pulsar_wire.specs.declared.error.Reason.TheVariants as reason
use Rattle.pulsar_wire.specs.declared.key.RequestKey.{RequestKey}
use Rattle.pulsar_wire.specs.declared.key.RequestKey.TheVariants as keys
use Rattle.pulsar_frame.specs.Frame as frame
use Rattle.pulsar_frame.specs.Frame.{Front, Refused, Short, Whole, front}
use Rattle.pulsar_frame.specs.Key.{key}
use Rattle.pulsar_frame.specs.Message.{MessageValues}
use Rattle.pulsar_frame.specs.Payload.{PayloadValues, payload_behind}
use Rattle.pulsar_frame.specs.Refusal.{◌>>=◌, or_refused}
use Rattle.pulsar_frame.specs.Reply.{Reply, read_body, reply}
use Rattle.pulsar_frame.specs.Sized.{sized_at}
use Rattle.pulsar_requests.specs.Waits.{places}
use Rattle.pulsar_session.specs.Answers.{is}
use Rattle.pulsar_session.specs.declared.states.Stage.{Stage}
use Rattle.pulsar_session.specs.declared.states.Stage.TheVariants.{Dialing, Handshaking, Over, Ready}
use Rattle.pulsar_session.specs.Link.{Challenged, Seen, Settles, came, came_by, came_in, for_consumer, greeted_by, settled_by, unasked}
use Rattle.pulsar_outgoing.specs.Replies.{given}
use Rattle.pulsar_laws.proofs.producers.Texts.{HasTexts, IsText, command_texts, no_text}

-- FRAMES

or_refused_is : {A : Type 0} (r : Reason) (x : Option A) (a : A) → or_refused r x ≡ Ok a → x ≡ Some a
or_refused_is r None a h = absurd cc
or_refused_is r (Some x) a h = let e : x ≡ a = cc in ap Some e

record Steps {A B : Type 0} (x : Result A Reason) (f : A → Result B Reason) (y : B) : Type 0 where
  first : A
  is_first : x ≡ Ok first
  is_then : f first ≡ Ok y

each_of : {A B : Type 0} (x : Result A Reason) (f : A → Result B Reason) (y : B) → ◌>>=◌ x f ≡ Ok y → Steps x f y
each_of (Err r) f y h = absurd cc
each_of (Ok a) f y h = record { first = a; is_first = refl; is_then = h }

content_texts : (bytes : List ℕ) (m : MessageValues) → frame.content bytes ≡ Ok m → HasTexts m.command
unfolding frame.content
content_texts bytes m h =
    let a = each_of (or_refused reason.Frame (sized_at bytes))
    (λ parts. ◌>>=◌ (or_refused reason.Command (command_reading parts.0))
    (λ command. ◌>>=◌ (payload_behind parts.1) (λ payload. Ok (record { command = command; payload = payload })))) m h in
    let b = each_of (or_refused reason.Command (command_reading a.first.0))
    (λ command. ◌>>=◌ (payload_behind a.first.1) (λ payload. Ok (record { command = command; payload = payload }))) m a.is_then in
    let c = each_of (payload_behind a.first.1) (λ payload. Ok (record { command = b.first; payload = payload })) m b.is_then in
    let same : b.first ≡ m.command = ok_command c.first b.first c.is_then in
    subst HasTexts same (command_texts a.first.0 b.first (or_refused_is reason.Command (command_reading a.first.0) b.first b.is_first))
  where
    ok_command : (payload : Option PayloadValues) (c : CommandValues) → ◌≡◌ {A = Result MessageValues Reason} (Ok (record { command = c; payload = payload })) (Ok m) →
        c ≡ m.command
    ok_command payload c h = let e : record { command = c; payload = payload } ≡ m = cc in ap (λ (x : MessageValues). x.command) e

front_texts : (bytes rest : List ℕ) (m : MessageValues) → front bytes ≡ Whole m rest → HasTexts m.command
unfolding front
front_texts bytes rest m h = by (sized_at bytes) h
  where
    on : (x : Result MessageValues Reason) (after : List ℕ) → frame.before x after ≡ Whole m rest → x ≡ Ok m
    on (Ok y) after k = let e : y ≡ m = cc in ap Ok e
    on (Err r) after k = absurd cc

    by : (x : Option (List ℕ × List ℕ)) → frame.front_of x ≡ Whole m rest → HasTexts m.command
    by None k = absurd cc
    by (Some parts) k = content_texts parts.0 m (on (frame.content parts.0) parts.1 k)

-- REPLIES

came_front : (s : Seen) (ps : List ℕ) (m : MessageValues) → came s ≡ Settles ps m → HasTexts m.command
came_front s ps m h = by s.stage (front s.unread) refl h
  where
    greeted : (b : Bool) → greeted_by b ≡ Settles ps m → ⊥
    greeted true k = cc
    greeted false k = cc

    given_to : (x : MessageValues) (k : Option RequestKey) → for_consumer k x ≡ Settles ps m → ⊥
    given_to x None e = cc
    given_to x (Some (keys.RequestId n)) e = cc
    given_to x (Some (keys.ProducerSend p n)) e = cc
    given_to x (Some (keys.Consumer c)) e = cc
    given_to x (Some (keys.CloseConsumer c n)) e = cc
    given_to x (Some keys.AuthChallenge) e = cc

    asked : (x : MessageValues) → unasked x ≡ Settles ps m → ⊥
    asked x k = at (is 36 x) k
      where
        at : (b : Bool) → cond b Challenged (for_consumer (key x) x) ≡ Settles ps m → ⊥
        at true e = cc
        at false e = given_to x (key x) e

    whole : (x : MessageValues) (qs : List ℕ) → came_by qs x ≡ Settles ps m → x ≡ m
    whole x [] k = absurd (asked x k)
    whole x (q ∷ qs) k = let e : x ≡ m = cc in e

    by : (stage : Stage) (f : Front) → front s.unread ≡ f → came_in stage f s ≡ Settles ps m → HasTexts m.command
    by Dialing f e k = absurd cc
    by Handshaking Short e k = absurd cc
    by Handshaking (Refused r) e k = absurd cc
    by Handshaking (Whole x rest) e k = absurd (greeted (is 3 x) k)
    by Ready Short e k = absurd cc
    by Ready (Refused r) e k = absurd cc
    by Ready (Whole x rest) e k = subst (λ (y : MessageValues). HasTexts y.command) (whole x (places (settled_by x s)) k) (front_texts s.unread rest x e)
    by Over f e k = absurd cc

-- a reply names a producer by a text
abbrev pub NamesSo : Reply → Type 0
NamesSo r = (t : List ℕ) → r.name ≡ Some t → IsText t

pub reply_names : (s : Seen) (ps : List ℕ) (m : MessageValues) → came s ≡ Settles ps m → NamesSo (reply m)
reply_names s ps m h t e = by m.command.body refl e
  where
    named : (b : BodyValues) (c : Bool) → m.command.body ≡ Some b → cond c (text_at 2 b.row b.values) None ≡ Some t → IsText t
    named b true is k = came_front s ps m h b 2 t is k
    named b false is k = absurd cc

    by : (body : Option BodyValues) → m.command.body ≡ body → (read_body (key m) body).name ≡ Some t → IsText t
    by None is k = absurd cc
    by (Some b) is k = named b (b.number == 17) is k

pub given_text : (r : Reply) → NamesSo r → IsText (given r).name
given_text r k = by r.name refl
  where
    by : (x : Option (List ℕ)) → r.name ≡ x → IsText (unwrap_or x [])
    by None e = no_text
    by (Some t) e = k t e
