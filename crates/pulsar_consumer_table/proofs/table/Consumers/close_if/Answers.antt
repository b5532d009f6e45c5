use Rattle.std.proofs.Common.{◌∙◌, ap, sym, Some}
use Rattle.pulsar_consumer_table.specs.Consumers.{closes, word_of_close}
use Rattle.pulsar_consumer_table.specs.KeptConsumers.{consumers_in}
use Rattle.pulsar_consumer_table.specs.Notices.{word_to}
use Rattle.pulsar_consumer_table.proofs.Heard.{all_same, over_none}
use Rattle.pulsar_consumer_table.proofs.table.Consumers.close_if.Goals as goal

pub returns-then-not-is_asked : goal.returns-then-not-is_asked
returns-then-not-is_asked c =
    let cs = consumers_in c.args.self.now.rows c.args.self.now.numbers in
    let l = c.args.link in
    let n = c.args.number in
    record {
      notices = c.new.ensures.items ∙ sym (over_none (λ t m. word_to t m (word_of_close (Some n) l c.args.is_asked m))
          (λ t m. ap (λ a. word_to t m (word_of_close (Some n) l a m)) c.if-not-is_asked.true) cs.rows cs.tickets);
      after = all_same (closes (Some n) l c.args.is_asked) (λ m. ap (λ a. closes (Some n) l a m) c.if-not-is_asked.true) cs;
    }
