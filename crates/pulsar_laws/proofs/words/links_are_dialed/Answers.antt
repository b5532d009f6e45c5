use Rattle.pulsar_laws.proofs.words.Dialed.{links_are_dialed_lem, links_are_due_lem, requests_are_due_lem}
use Rattle.pulsar_laws.proofs.words.links_are_dialed.Goals as goal

pub returns-clause-dialed : goal.returns-clause-dialed
returns-clause-dialed c = links_are_dialed_lem

pub returns-clause-due : goal.returns-clause-due
returns-clause-due c = λ o log l now seat h. links_are_due_lem o log l now seat h

pub returns-clause-requests : goal.returns-clause-requests
returns-clause-requests c = λ o log l place seat request x h asked is. requests_are_due_lem o log l place seat request x h asked is
