-- A request call: a number is drawn, a frame is made, and it is asked for.
use Rattle.std.proofs.Common.{◌≡◌, ◌∙◌, sym, ap, ℕ, List, Bool, false, Option, Some, Result, Ok, Err}
use Rattle.std.specs.Prelude.{IfOk, IsOkAnd}
use Rattle.pulsar_wire.specs.Command.{CommandValues}
use Rattle.pulsar_wire.specs.Views.{command_values}
use Rattle.pulsar_wire.specs.declared.commands.base.BaseCommand.{BaseCommand}
use Rattle.pulsar_wire.specs.declared.error.ConnectionError.{ConnectionError}
use Rattle.pulsar_wire.specs.declared.error.NoMemory.{NoMemory}
use Rattle.pulsar_frame.specs.Shown.{message_values}
use Rattle.pulsar_frame.specs.declared.message.Message.{Message}
use Rattle.pulsar_messages.specs.declared.messages.MessageParts.{MessageParts}
use Rattle.pulsar_messages.specs.Messages.{PayloadContent, payload_content}
use Rattle.pulsar_messages.specs.Words.{Words, is_numbered, when_full}
use Rattle.pulsar_wire.specs.declared.awaited.Claim.{Claim}
use Rattle.pulsar_session.specs.declared.states.Asked.{Asked}
use Rattle.pulsar_session.specs.Link.{Asks, Seen, after, after_of, answer_of, asked, asked_for, asks_for, bare, can_wait, drawn, frame_for, is_memory, message_of, number_for, payload_values_of, place_of, put_frame, request, ticked}
use Rattle.pulsar_messages.specs.Claims.{claim}

module _ (now id : ℕ) (words : Words) (v u w x : Seen) (r : Result Asked ConnectionError) (f : Option (List ℕ)) (c : Option Claim) (b : Bool)
    (told : u ≡ ticked now v) (number : Ok id ≡ number_for (is_numbered words) u) (draws : w ≡ drawn (is_numbered words) u)
    (frame : f ≡ frame_for (message_of id now words)) (claims : c ≡ claim id words) (waits : b ≡ can_wait (when_full words)) where
  number_is : number_for (is_numbered words) v ≡ Ok id
  number_is = sym (number ∙ ap (number_for (is_numbered words)) told)

  w_is : w ≡ drawn (is_numbered words) (ticked now v)
  w_is = draws ∙ ap (drawn (is_numbered words)) told

  pub answer_is : (is_memory r ≡ false → r ≡ place_of f b w) → is_memory r ≡ false → r ≡ asked now words v
  answer_is h ok = h ok
      ∙ ap (λ y. place_of y b w) frame
      ∙ ap (λ y. place_of (frame_for (message_of id now words)) y w) waits
      ∙ ap (asked_for (request id now words)) w_is
      ∙ sym (ap (λ n. answer_of n now words (ticked now v)) number_is)

  pub after_is : (is_memory r ≡ false → x ≡ put_frame f b c w) → is_memory r ≡ false → x ≡ after (Asks now words) v
  after_is h ok = h ok
      ∙ ap (λ y. put_frame y b c w) frame
      ∙ ap (λ y. put_frame (frame_for (message_of id now words)) b y w) claims
      ∙ ap (λ y. put_frame (frame_for (message_of id now words)) y (claim id words) w) waits
      ∙ ap (asks_for (request id now words)) w_is
      ∙ sym (ap (λ n. after_of n now words (ticked now v)) number_is)

-- what is made of a command that was made
pub made : {X : Type 0} (make : CommandValues → X) (command : Result BaseCommand NoMemory) (x : X) (w : CommandValues) → IfOk command (λ c. command_values c ≡ w) →
    IsOkAnd command (λ c. x ≡ make (command_values c)) → x ≡ make w
made make (Ok c) x w h g = g ∙ ap make h
made make (Err e) x w h g = absurd g

pub surely_made : {X : Type 0} (make : CommandValues → X) (command : Result BaseCommand NoMemory) (x : X) (w : CommandValues) → IsOkAnd command (λ c. command_values c ≡ w) →
    IsOkAnd command (λ c. x ≡ make (command_values c)) → x ≡ make w
surely_made make (Ok c) x w h g = g ∙ ap make h
surely_made make (Err e) x w h g = absurd g

-- the frame of a message that is sent
pub sent : (parts : Result MessageParts NoMemory) (f : Option (List ℕ)) (id : ℕ) (block : Bool) (w : ℕ → Bool → CommandValues) (y : PayloadContent) →
    IfOk parts (λ p. (i : ℕ) (b : Bool) → command_values p.command ≡ w i b) → IfOk parts (λ p. payload_content p ≡ y) →
    IsOkAnd parts (λ p. f ≡ frame_for (record { command = command_values p.command; payload = Some (payload_values_of (payload_content p)) })) →
    f ≡ frame_for (record { command = w id block; payload = Some (payload_values_of y) })
sent (Ok p) f id block w y h k g =
    g ∙ ap (λ c. frame_for (record { command = c; payload = Some (payload_values_of (payload_content p)) })) (h id block)
    ∙ ap (λ z. frame_for (record { command = w id block; payload = Some (payload_values_of z) })) k
sent (Err e) f id block w y h k g = absurd g

-- the message of a command that is made
pub message_made : (command : Result BaseCommand NoMemory) (result : Result Message NoMemory) (w : CommandValues) → IfOk command (λ c. command_values c ≡ w) →
    IfOk result (λ m. IsOkAnd command (λ c. message_values m ≡ bare (command_values c))) → IfOk result (λ m. (now : ℕ) → message_values m ≡ bare w)
message_made command (Ok m) w h g = λ now. made bare command (message_values m) w h g
message_made command (Err e) w h g = tt

pub message_surely_made : (command : Result BaseCommand NoMemory) (result : Result Message NoMemory) (w : ℕ → CommandValues) → ((id : ℕ) → IsOkAnd command (λ c. command_values c ≡ w id)) →
    IfOk result (λ m. IsOkAnd command (λ c. message_values m ≡ bare (command_values c))) → IfOk result (λ m. (id now : ℕ) → message_values m ≡ bare (w id))
message_surely_made command (Ok m) w h g = λ id now. surely_made bare command (message_values m) (w id) (h id) g
message_surely_made command (Err e) w h g = tt
