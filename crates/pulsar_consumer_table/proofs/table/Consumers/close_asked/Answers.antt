use Rattle.std.proofs.Common.{◌∙◌, ap, sym}
use Rattle.pulsar_consumer_table.specs.Consumers.{closes, word_of_close}
use Rattle.pulsar_consumer_table.specs.KeptConsumers.{consumers_in}
use Rattle.pulsar_consumer_table.specs.Notices.{word_to}
use Rattle.pulsar_consumer_table.proofs.Heard.{all_same, none_named, over_none, same_unnamed}
use Rattle.pulsar_consumer_table.proofs.table.Consumers.close_asked.Goals as goal

pub returns-in-None : goal.returns-in-None
returns-in-None c =
    let cs = consumers_in c.args.self.now.rows c.args.self.now.numbers in
    let l = c.args.link in
    let a = c.args.is_asked in
    record {
      notices = c.new.ensures.items ∙ sym (over_none (λ t m. word_to t m (word_of_close c.args.number l a m))
          (λ t m. ap (λ n. word_to t m (word_of_close n l a m)) c.in-None.is ∙ none_named l a t m) cs.rows cs.tickets);
      after = all_same (closes c.args.number l a) (λ m. ap (λ n. closes n l a m) c.in-None.is ∙ same_unnamed l a m) cs;
    }
