-- Plans: machines over the outcomes of what they do. A state is told an outcome; it stays in a state, with what is done there, or it
-- gives its value. A line is a rule of the protocol.  (Pulsar binary protocol, Partitioned topics discovery; Topic lookup; Producer;
-- Consumer)
use Rattle.std.specs.Prelude.{ℕ, ◌-◌, Bool, true, false, ◌&&◌, ◌||◌, List, [], ◌∷◌, ◌++◌, codes, decimal, Option, Some, Result, Ok, Err, ◌==◌, if◌then◌else◌}
use Rattle.std.specs.List.{starts_with}
use Rattle.pulsar_wire.specs.declared.commands.enumerations.ServerError.{ServerError}
use Rattle.pulsar_wire.specs.declared.commands.enumerations.ServerError.TheVariants.{ConsumerBusy, ServiceNotReady, ProducerBlockedQuotaExceededError, ProducerBlockedQuotaExceededException, ProducerBusy}
use Rattle.pulsar_wire.specs.declared.error.IoKind.TheVariants.{TimedOut}
use Rattle.pulsar_messages.specs.Words.{LookupPartitionedTopic, LookupTopic}
use Rattle.pulsar_wire.specs.Failures.{Fault, Io, PulsarError, Disconnected, Failure, OfConnection}
use Rattle.pulsar_frame.specs.Reply.{Reply, is_body}
use Rattle.pulsar_addresses.specs.Address.{Place, Named}
use Rattle.pulsar_addresses.specs.Backoff.{allow_retry, one_more}
use Rattle.pulsar_searches.specs.Replies.{count_in, place_heard, unexpected}
use Rattle.pulsar_addresses.specs.Address.{in_discovery}
use Rattle.pulsar_searches.specs.declared.replies.Heard.{Heard}
use Rattle.pulsar_searches.specs.declared.replies.Heard.TheVariants.{Says, Later, Denies}
use Rattle.pulsar_searches.specs.declared.replies.Pointed.{Pointed}
use Rattle.pulsar_searches.specs.declared.replies.Pointed.TheVariants.{Redirects, Serves}
use Rattle.pulsar_searches.specs.declared.turn.Ways.{Ways}
use Rattle.pulsar_searches.specs.declared.turn.Action.TheVariants.{Get, Ask, Wait}
use Rattle.pulsar_searches.specs.declared.turn.SearchOutcome.{SearchOutcome}
use Rattle.pulsar_searches.specs.declared.turn.SearchOutcome.TheVariants.{GotLink, Replied, Woken, Failed}
use Rattle.pulsar_searches.specs.declared.count.Counting.{Counting}
use Rattle.pulsar_searches.specs.declared.count.Counting.TheVariants as count
use Rattle.pulsar_searches.specs.declared.look.Search.{Search}
use Rattle.pulsar_searches.specs.declared.look.Looking.{Looking}
use Rattle.pulsar_searches.specs.declared.look.Looking.TheVariants as look
use Rattle.pulsar_searches.specs.declared.names.Naming.{Naming}
use Rattle.pulsar_searches.specs.declared.names.Naming.TheVariants as name
use Rattle.pulsar_searches.specs.declared.retry.Retrying.{Retrying}
use Rattle.pulsar_searches.specs.declared.retry.Retrying.TheVariants as retry
use Rattle.pulsar_searches.specs.declared.making.Command.{Command}
use Rattle.pulsar_searches.specs.declared.making.Served.{Served}
use Rattle.pulsar_searches.specs.declared.making.Making.{Making}
use Rattle.pulsar_searches.specs.declared.making.Making.TheVariants as make
use Rattle.pulsar_searches.specs.declared.plan.Answer.{Answer}
use Rattle.pulsar_searches.specs.declared.plan.Answer.TheVariants as answer
use Rattle.pulsar_searches.specs.declared.plan.Sought.{Sought}
use Rattle.pulsar_searches.specs.declared.plan.Sought.TheVariants as procedure
use Rattle.pulsar_searches.specs.declared.plan.SearchPlan.{SearchPlan}
use Rattle.pulsar_searches.specs.declared.plan.SearchPlan.TheVariants as plan
use Rattle.pulsar_addresses.specs.Address.{name_found}
use Rattle.pulsar_searches.specs.declared.transition.Transition.TheVariants.{Stays, Gives}
use Rattle.pulsar_searches.specs.Transitions.{SearchTransition}

-- PLANS WITHIN PLANS

-- a plan within a plan: its states are states of the outer one, and the outer one goes on with what it gives
abbrev pub nested : {S T A B : Type 0} → SearchTransition S A → (S → T) → (A → SearchTransition T B) → SearchTransition T B
nested (Stays s action) within on = Stays (within s) action
nested (Gives a) within on = on a

-- the same for a plan that may fail: what follows its value, and what follows its failure
abbrev pub either_way : {T A B : Type 0} → (A → SearchTransition T B) → (Failure → SearchTransition T B) → Result A Failure → SearchTransition T B
either_way on otherwise (Ok a) = on a
either_way on otherwise (Err f) = otherwise f

abbrev pub or_else : {S T A B : Type 0} → SearchTransition S (Result A Failure) → (S → T) → (A → SearchTransition T B) → (Failure →
    SearchTransition T B) → SearchTransition T B
or_else turn within on otherwise = nested turn within (either_way on otherwise)

abbrev pub fails : {S A : Type 0} → Failure → SearchTransition S (Result A Failure)
fails f = Gives (Err f)

-- and one whose failure is that of the outer one
abbrev pub and_then : {S T A B : Type 0} → SearchTransition S (Result A Failure) → (S → T) → (A → SearchTransition T (Result B Failure)) →
    SearchTransition T (Result B Failure)
and_then turn within on = or_else turn within on fails

-- Why a plan fails at an outcome. An outcome that it doesn't wait for counts as the loss of what it waits for.
abbrev pub fault_of : SearchOutcome → Fault
fault_of (GotLink link) = Disconnected
fault_of (Replied r) = Disconnected
fault_of Woken = Disconnected
fault_of (Failed f) = f

abbrev pub is_lost : Fault → Bool
is_lost Disconnected = true
is_lost _ = false

-- THE NUMBER OF PARTITIONS.  `again`: the question may be asked once more. `n`: the retries so far.

abbrev pub count_gets : Ways → (again : Bool) → (n : ℕ) → SearchTransition Counting (Result ℕ Failure)
count_gets w again n = Stays (count.Getting again n) (Get w.base)

abbrev pub count_asks : (topic : List ℕ) → (again : Bool) → (n link : ℕ) → SearchTransition Counting (Result ℕ Failure)
count_asks t again n link = Stays (count.Asked again n link) (Ask link (LookupPartitionedTopic t))

-- a link that was lost is got once more for the same question
abbrev pub count_failed : Ways → (again : Bool) → (n : ℕ) → Fault → SearchTransition Counting (Result ℕ Failure)
count_failed w again n f = if again && is_lost f then count_gets w false n else fails (in_discovery f)

abbrev pub count_heard : Ways → (n link : ℕ) → Heard ℕ → SearchTransition Counting (Result ℕ Failure)
count_heard w n link (Says count) = Gives (Ok count)
count_heard w n link Later = Stays (count.Resting n link) (Wait w.retry_delay)
count_heard w n link (Denies f) = fails f

-- the topic is itself a partition
unfoldable pub mentions : (part text : List ℕ) → Bool
mentions part [] = starts_with (λ x y. x == y) [] part
mentions part (x ∷ text) = starts_with (λ x y. x == y) (x ∷ text) part || mentions part text

abbrev pub is_partition : (topic : List ℕ) → Bool
is_partition topic = mentions (codes "-partition-") topic

abbrev pub count_begins : Ways → (topic : List ℕ) → SearchTransition Counting (Result ℕ Failure)
count_begins w t = if is_partition t then Gives (Ok 0) else count_gets w true 0

abbrev pub count_told : Ways → (topic : List ℕ) → Counting → SearchOutcome → SearchTransition Counting (Result ℕ Failure)
count_told w t (count.Getting again n) (GotLink link) = count_asks t again n link
count_told w t (count.Getting again n) o = fails (in_discovery (fault_of o))
count_told w t (count.Asked again n link) (Replied r) = count_heard w n link (count_in w n r)
count_told w t (count.Asked again n link) o = count_failed w again n (fault_of o)
count_told w t (count.Resting n link) Woken = count_asks t true (one_more n) link
count_told w t (count.Resting n link) o = fails (in_discovery (fault_of o))

-- THE BROKER OF A TOPIC

abbrev pub look_gets : Search → SearchTransition Looking (Result Place Failure)
look_gets s = Stays (look.Getting s) (Get s.last)

abbrev pub look_asks : (topic : List ℕ) → Search → (link : ℕ) → SearchTransition Looking (Result Place Failure)
look_asks t s link = Stays (look.Asked s link) (Ask link (LookupTopic t s.authority))

abbrev pub look_failed : Search → Fault → SearchTransition Looking (Result Place Failure)
look_failed s f = if s.again && is_lost f then look_gets (record s { again = false }) else fails (in_discovery f)

-- another broker is to be asked, which is a new question, or this one serves
abbrev pub look_pointed : (n : ℕ) → Pointed → SearchTransition Looking (Result Place Failure)
look_pointed n (Redirects place authority) = look_gets (record { last = place; authority = authority; again = true; retries = n })
look_pointed n (Serves place) = Stays (look.Reaching place) (Get place)

abbrev pub look_heard : Ways → Search → (link : ℕ) → Heard Pointed → SearchTransition Looking (Result Place Failure)
look_heard w s link (Says pointed) = look_pointed s.retries pointed
look_heard w s link Later = Stays (look.Resting s link) (Wait w.retry_delay)
look_heard w s link (Denies f) = fails f

-- the same question once more, after a wait: it is a new one
abbrev pub asked_anew : Search → Search
asked_anew s = record { last = s.last; authority = s.authority; again = true; retries = one_more s.retries }

-- the search begins at the address of the service
abbrev pub first_search : Ways → Search
first_search w = record { last = w.base; authority = false; again = true; retries = 0 }

abbrev pub look_begins : Ways → SearchTransition Looking (Result Place Failure)
look_begins w = look_gets (first_search w)

abbrev pub look_told : Ways → (topic : List ℕ) → Looking → SearchOutcome → SearchTransition Looking (Result Place Failure)
look_told w t (look.Getting s) (GotLink link) = look_asks t s link
look_told w t (look.Getting s) o = fails (in_discovery (fault_of o))
look_told w t (look.Asked s link) (Replied r) = look_heard w s link (place_heard w s.last.proxy s.retries r)
look_told w t (look.Asked s link) o = look_failed s (fault_of o)
look_told w t (look.Resting s link) Woken = look_asks t (asked_anew s) link
look_told w t (look.Resting s link) o = fails (in_discovery (fault_of o))
look_told w t (look.Reaching found) (GotLink link) = Gives (Ok found)
look_told w t (look.Reaching found) o = fails (in_discovery (fault_of o))

-- THE NAMES OF A TOPIC: the topic itself, or its partitions in order, each with its broker

abbrev pub partition_name : (topic : List ℕ) → ℕ → List ℕ
partition_name t k = t ++ (codes "-partition-" ++ decimal k)

-- the last `left` of so many partitions, behind those that were found
abbrev pub names_left : Ways → (topic : List ℕ) → (count left : ℕ) → List Named → SearchTransition Naming (Result (List Named) Failure)
names_left w t count left found =
    if left == 0 then Gives (Ok found)
    else and_then (look_begins w) (λ l. name.Part l (record { name = partition_name t (count - left); count = count; left = left - 1; found = found })) (λ place. Gives (Ok found))

abbrev pub names_of : Ways → (topic : List ℕ) → (count : ℕ) → SearchTransition Naming (Result (List Named) Failure)
names_of w t count =
    if count == 0 then and_then (look_begins w) name.Whole (λ place. Gives (Ok (name_found [] t place))) else names_left w t count count []

abbrev pub names_begins : Ways → (topic : List ℕ) → SearchTransition Naming (Result (List Named) Failure)
names_begins w t = and_then (count_begins w t) name.Counting (names_of w t)

abbrev pub names_told : Ways → (topic : List ℕ) → Naming → SearchOutcome → SearchTransition Naming (Result (List Named) Failure)
names_told w t (name.Counting c) o = and_then (count_told w t c o) name.Counting (names_of w t)
names_told w t (name.Whole l) o = and_then (look_told w t l o) name.Whole (λ place. Gives (Ok (name_found [] t place)))
names_told w t (name.Part l p) o =
    and_then (look_told w p.name l o) (λ l. name.Part l p) (λ place. names_left w t p.count p.left (name_found p.found p.name place))

-- A RETRY of a command: a wait, and then the search for its broker

-- the broker's errors behind which a command may be asked again
abbrev pub is_passing : Option ServerError → Bool
is_passing (Some ConsumerBusy) = true
is_passing (Some ServiceNotReady) = true
is_passing (Some ProducerBlockedQuotaExceededError) = true
is_passing (Some ProducerBlockedQuotaExceededException) = true
is_passing (Some ProducerBusy) = true
is_passing _ = false

abbrev pub is_retryable : Fault → Bool
is_retryable (Io TimedOut) = true
is_retryable (PulsarError error text) = is_passing error
is_retryable _ = false

abbrev pub retry_begins : Ways → (n : ℕ) → Fault → SearchTransition Retrying (Result Place Failure)
retry_begins w n f =
    if is_retryable f && allow_retry w.max_retries n then Stays retry.Resting (Wait w.retry_delay) else fails (OfConnection f)

abbrev pub retry_told : Ways → (topic : List ℕ) → Retrying → SearchOutcome → SearchTransition Retrying (Result Place Failure)
retry_told w t retry.Resting Woken = nested (look_begins w) retry.Looking Gives
retry_told w t retry.Resting o = fails (OfConnection (fault_of o))
retry_told w t (retry.Looking l) o = nested (look_told w t l o) retry.Looking Gives

-- A COMMAND THAT IS ASKED UNTIL IT SUCCEEDS: a producer or a subscription is made

-- a link to this address is got, after so many retries
abbrev pub made_gets : (n : ℕ) → Place → SearchTransition Making (Result Served Failure)
made_gets n place = Stays (make.Getting n) (Get place)

abbrev pub made_asks : Command → (n link : ℕ) → SearchTransition Making (Result Served Failure)
made_asks c n link = Stays (make.Asked n link) (Ask link c.request)

-- what a reply, or the lack of one, says to a command that is answered by the body of this number
abbrev pub answered : (answer : ℕ) → Reply → Result Reply Fault
answered answer r = if is_body answer r.body then Ok r else Err (unexpected r r.body)

abbrev pub verdict : (answer : ℕ) → SearchOutcome → Result Reply Fault
verdict answer (Replied r) = answered answer r
verdict answer o = Err (fault_of o)

abbrev pub made_answered : Ways → (n link : ℕ) → Result Reply Fault → SearchTransition Making (Result Served Failure)
made_answered w n link (Ok r) = Gives (Ok (record { link = link; reply = r }))
made_answered w n link (Err f) = and_then (retry_begins w n f) (λ r. make.Retrying r n) (made_gets (one_more n))

abbrev pub made_told : Ways → Command → Making → SearchOutcome → SearchTransition Making (Result Served Failure)
made_told w c (make.Getting n) (GotLink link) = made_asks c n link
made_told w c (make.Getting n) o = fails (OfConnection (fault_of o))
made_told w c (make.Asked n link) o = made_answered w n link (verdict c.answer o)
made_told w c (make.Retrying r n) o = and_then (retry_told w c.topic r o) (λ r. make.Retrying r n) (made_gets (one_more n))

-- ALL OF THEM

abbrev pub begins : Ways → Sought → SearchTransition SearchPlan (Result Answer Failure)
begins w (procedure.CountPartitions t) = and_then (count_begins w t) (plan.Counting t) (λ n. Gives (Ok (answer.Count n)))
begins w (procedure.Look t) = and_then (look_begins w) (plan.Looking t) (λ place. Gives (Ok (answer.Address place)))
begins w (procedure.Name t) = and_then (names_begins w t) (plan.Naming t) (λ names. Gives (Ok (answer.Addresses names)))
begins w (procedure.Retry t n f) = and_then (retry_begins w n f) (plan.Retrying t) (λ place. Gives (Ok (answer.Address place)))
begins w (procedure.Make c place) = and_then (made_gets 0 place) (plan.Making c) (λ s. Gives (Ok (answer.Reply s)))

abbrev pub told : Ways → SearchPlan → SearchOutcome → SearchTransition SearchPlan (Result Answer Failure)
told w (plan.Counting t c) o = and_then (count_told w t c o) (plan.Counting t) (λ n. Gives (Ok (answer.Count n)))
told w (plan.Looking t l) o = and_then (look_told w t l o) (plan.Looking t) (λ place. Gives (Ok (answer.Address place)))
told w (plan.Naming t n) o = and_then (names_told w t n o) (plan.Naming t) (λ names. Gives (Ok (answer.Addresses names)))
told w (plan.Retrying t r) o = and_then (retry_told w t r o) (plan.Retrying t) (λ place. Gives (Ok (answer.Address place)))
told w (plan.Making c m) o = and_then (made_told w c m o) (plan.Making c) (λ s. Gives (Ok (answer.Reply s)))
