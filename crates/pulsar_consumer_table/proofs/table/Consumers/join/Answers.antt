use Rattle.std.proofs.Common.{◌≡◌, ◌==◌, ◌∙◌, ℕ, ap, cond, false, refl, Some}
use Rattle.std.specs.BTreeMap.{get}
use Rattle.std.specs.Map.{keys_of}
use Rattle.std.specs.Ordering.{nat_cmp}
use Rattle.pulsar_consumer_table.specs.Consumers.{link_at, lives_at}
use Rattle.pulsar_consumer_table.specs.KeptConsumers.{is_known, known_at, member_in, rows_in}
use Rattle.pulsar_consumer_table.proofs.Heard.{consumers_are}
use Rattle.pulsar_consumer_table.proofs.Living.{where_it_lives}
use Rattle.pulsar_consumer_table.proofs.Numbered.{known_by}
use Rattle.pulsar_consumer_table.proofs.Placed.{moved_placed}
use Rattle.pulsar_consumer_table.proofs.Rows.{keys_insert, put}
use Rattle.pulsar_consumer_table.proofs.table.Consumers.join.Goals as goal

pub invariant_of-self-2 : goal.invariant_of-self-2
invariant_of-self-2 c =
    let cs = c.args.self.now in
    let new = c.insert.new.self in
    let others : (t : ℕ) → (t == c.args.ticket) ≡ false → rows_in new t ≡ rows_in cs.rows t = λ t e.
    put c.args.ticket t c.args.row (get nat_cmp cs.rows t) (get nat_cmp new t) (c.in_ok-insert.ensures.updates.0 t)
    ∙ ap (λ b. cond b (Some (member_in c.args.row)) (rows_in cs.rows t)) e in
    record {
      ordered = λ whole. c.insert.ensures.ordered;
      listed = λ whole. moved_placed is_known cs.listing (rows_in cs.rows) (cs.listed c.if-self.false) known_at known_by c.relist.new.listing c.args.ticket (rows_in new) others
          c.known_number-number.result c.known_number-new_number.result c.known_number-number.ensures c.known_number-new_number.ensures c.in_ok-relist.ensures;
      lives = λ whole. moved_placed lives_at cs.heard (rows_in cs.rows) (cs.lives c.if-self.false) link_at where_it_lives c.relist-2.new.listing c.args.ticket (rows_in new) others
          c.link_of-link.result c.link_of-new_link.result c.link_of-link.ensures c.link_of-new_link.ensures c.in_ok-relist-2.ensures;
    }

pub returns : goal.returns
returns c =
    let cs = c.args.self.now in
    let new = c.insert.new.self in
    consumers_are _ _ (λ t. put c.args.ticket t c.args.row (get nat_cmp cs.rows t) (get nat_cmp new t) (c.in_ok-insert.ensures.updates.0 t))
    (ap keys_of c.in_ok-insert.ensures.entries ∙ keys_insert cs.rows.entries c.args.ticket c.args.row) refl refl refl refl
