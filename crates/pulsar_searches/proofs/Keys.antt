-- What a reply says doesn't depend on its key, and on what stands beside its body.
use Rattle.std.proofs.Common.{◌≡◌, ◌∙◌, sym, ap, refl, ℕ, Bool, Option, Some, None}
use Rattle.std.specs.Option.{option_map}
use Rattle.pulsar_wire.specs.Command.{BodyValues}
use Rattle.pulsar_wire.specs.declared.key.RequestKey.{RequestKey}
use Rattle.pulsar_wire.specs.Views.{body_values}
use Rattle.pulsar_wire.specs.declared.commands.base.Body.{Body}
use Rattle.pulsar_frame.specs.Key.{key}
use Rattle.pulsar_frame.specs.Shown.{message_values}
use Rattle.pulsar_frame.specs.declared.message.Message.{Message}
use Rattle.pulsar_frame.specs.Message.{MessageValues}
use Rattle.pulsar_frame.specs.Reply.{Reply, framed, read_body, reply}
use Rattle.pulsar_searches.specs.Replies.{count_in, place_heard, unexpected}
use Rattle.pulsar_searches.specs.declared.turn.Ways.{Ways}

pub count_without_key : (w : Ways) (n : ℕ) (m : MessageValues) (k : Option RequestKey) (b : Option BodyValues) → count_in w n (framed m (read_body k b)) ≡ count_in w n (read_body None b)
unfolding count_in unexpected
count_without_key w n m k None = refl
count_without_key w n m k (Some b) = refl

pub place_without_key : (w : Ways) (proxy : Bool) (n : ℕ) (m : MessageValues) (k : Option RequestKey) (b : Option BodyValues) → place_heard w proxy n (framed m (read_body k b)) ≡ place_heard w proxy n (read_body None b)
unfolding place_heard unexpected
place_without_key w proxy n m k None = refl
place_without_key w proxy n m k (Some b) = refl

pub count_read : (w : Ways) (n : ℕ) (m : Message) (r : Reply) (b : Option Body) → reply (message_values m) ≡ r → m.command.body ≡ b → count_in w n (read_body None (option_map body_values b)) ≡ count_in w n r
count_read w n m r b told is =
    ap (λ x. count_in w n (read_body None (option_map body_values x))) (sym is)
    ∙ sym (count_without_key w n (message_values m) (key (message_values m)) (message_values m).command.body) ∙ ap (count_in w n) told

pub place_read : (w : Ways) (proxy : Bool) (n : ℕ) (m : Message) (r : Reply) (b : Option Body) → reply (message_values m) ≡ r → m.command.body ≡ b → place_heard w proxy n (read_body None (option_map body_values b)) ≡ place_heard w proxy n r
place_read w proxy n m r b told is =
    ap (λ x. place_heard w proxy n (read_body None (option_map body_values x))) (sym is)
    ∙ sym (place_without_key w proxy n (message_values m) (key (message_values m)) (message_values m).command.body) ∙ ap (place_heard w proxy n) told
