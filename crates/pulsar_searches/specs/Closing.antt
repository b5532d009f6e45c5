-- Where a build fails, what it made is closed, in the order in which it was made.  (Pulsar binary protocol, Producer; Consumer: the
-- commands that close them)
use Rattle.std.specs.Prelude.{List, [], ◌∷◌, Result, Ok, Err}
use Rattle.pulsar_messages.specs.Words.{Words, CloseConsumer, CloseProducer}
use Rattle.pulsar_wire.specs.Failures.{Failure}
use Rattle.pulsar_searches.specs.declared.closing.Close.{Close}
use Rattle.pulsar_searches.specs.declared.closing.Close.TheVariants.{Producer, Consumer}
use Rattle.pulsar_searches.specs.declared.closing.Closing.{Closing}
use Rattle.pulsar_searches.specs.declared.closing.Deed.{Deed}
use Rattle.pulsar_searches.specs.declared.closing.Deed.TheVariants as deed
use Rattle.pulsar_searches.specs.declared.closing.Guarded.{Guarded}
use Rattle.pulsar_searches.specs.declared.closing.Guarded.TheVariants as guarded
use Rattle.pulsar_searches.specs.declared.closing.Made.{Made}
use Rattle.pulsar_searches.specs.declared.transition.Transition.{Transition}
use Rattle.pulsar_searches.specs.declared.transition.Transition.TheVariants.{Stays, Gives}

-- what is asked to close it
abbrev pub close_words : Close → Words
close_words (Producer n) = CloseProducer n
close_words (Consumer n) = CloseConsumer n

-- one after the other is closed, whatever comes of it, and then the failure is given
abbrev pub closes : List Made → Failure → Transition Closing Made Failure
closes [] f = Gives f
closes (m ∷ left) f = Stays (record { left = left; refusal = f }) m

-- the same as a build that has failed
abbrev pub fails : {S D A : Type 0} → Transition Closing Made Failure → Transition (Guarded S) (Deed D) (Result A Failure)
fails (Stays c m) = Stays (guarded.Closes c) (deed.Closes m)
fails (Gives f) = Gives (Err f)

-- a build that made this, by a step of its plan
abbrev pub guards : {S D A : Type 0} → List Made → Transition S D (Result A Failure) → Transition (Guarded S) (Deed D) (Result A Failure)
guards made (Stays s d) = Stays (guarded.Goes s made) (deed.Does d)
guards made (Gives (Ok a)) = Gives (Ok a)
guards made (Gives (Err f)) = fails (closes made f)
