use Rattle.std.proofs.Common.{◌≡◌, ◌∙◌, ◌+◌, ◌++◌, ◌∷◌, [], ap, append_assoc, arith, drop, length, map, sym}
use Rattle.std.proofs.lemmas.Iterator.Adapters.{YieldsList-from_vec}
use Rattle.std.proofs.lemmas.Iterator.Consumers.{YieldsList-end}
use Rattle.std.proofs.lemmas.List.{length_push, map-id}
use Rattle.pulsar_messages.specs.Content.{message_content}
use Rattle.pulsar_calls.specs.declared.act.Act.TheVariants.{Starts}
use Rattle.pulsar_calls.specs.declared.act.Who.TheVariants.{Call}
use Rattle.pulsar_producer_table.specs.KeptProducers.{producers_of}
use Rattle.pulsar_producer_table.specs.Producers.{all_routed, routed}
use Rattle.pulsar_calls.specs.Content.{next_advice}
use Rattle.pulsar_acts.specs.Rules.{sends_as, share, shares_of}
use Rattle.pulsar_acts.specs.Tables.{chosen_of, view_of}
use Rattle.pulsar_acts.specs.View.{View}
use Rattle.pulsar_acts.proofs.Sending.{drop_next, routed_end, shares_end}
use Rattle.pulsar_acts.proofs.tables.Tables.shares.Goals as goal

pub loop-message-preserved : goal.loop-message-preserved
loop-message-preserved c =
    let o = chosen_of c.args.self.now.settings in
    let ps = producers_of c.args.self.now.producers in
    let v = view_of c.args.self.now in
    let of = c.args.of in
    let t = c.args.producer in
    let xs = c.loop-message.yielded in
    let x = c.in-Some.message in
    let so_far = c.loop-message.invariant in
    let n = c.loop-message.ticket in
    let is = so_far.ticket in
    let ticket : c.in_ok-next.next ≡ of + length (xs ++ x ∷ []) + 1 = omega (arith, c.in_ok-next.ensures, is, length_push xs x) in
    let advice = c.next-said.ensures.index ∙ ap next_advice so_far.advice in
    let procedure =
    c.in_ok-procedure.ensures.procedure
    ∙ (λ i. sends_as (chosen_of (so_far.settings i)) (so_far.after i).producers (share of n) (advice i) t (message_content x))
    in
    let before = shares_of o ps of (of + 1) c.args.advice t (map message_content xs) in
    record {
      ticket = ticket;
      advice = c.next-said.ensures.left ∙ ap (drop 1) so_far.advice ∙ drop_next (length xs) c.args.advice ∙ ap (λ k. drop k c.args.advice) (sym (length_push xs x));
      parts =
          c.in_ok-push_back.ensures.items
          ∙ ap (λ acts. acts ++ Starts (Call n) c.in_ok-procedure.procedure ∷ []) so_far.parts
          ∙ append_assoc c.args.parts.now.items before (Starts (Call n) c.in_ok-procedure.procedure ∷ [])
          ∙ (λ i. c.args.parts.now.items ++ (before ++ Starts (Call n) (procedure i) ∷ []))
          ∙ sym (ap (λ acts. c.args.parts.now.items ++ acts) (shares_end message_content o of t ps c.args.advice xs x n is));
      after =
          c.in_ok-procedure.ensures.after
          ∙ ap (λ (w : View). record w { producers = routed t (message_content x) w.producers }) so_far.after
          ∙ sym (ap (λ qs. record v { producers = qs }) (routed_end message_content o of t ps xs x));
      settings = c.sends_as.ensures.settings ∙ so_far.settings;
    }

pub returns-clause-after : goal.returns-clause-after
returns-clause-after c =
    let v = view_of c.args.self.now in
    let given = c.into_iter-message-iterator.ensures.into_iter_gives in
    let end =
    YieldsList-end (YieldsList-from_vec c.args.messages.items given.0 (given.1 ∙ c.args.messages.ok.0)) c.loop-message.yielded
    c.loop-message.message-iterator c.loop-message.yielded_by c.next.result c.next.new.self c.in-None.is c.next.ensures.steps
    in
    c.loop-message.invariant.after
    ∙ ap (λ xs. record v { producers = all_routed c.args.producer (map message_content xs) v.producers }) (sym (map-id c.loop-message.yielded) ∙ end.0)
