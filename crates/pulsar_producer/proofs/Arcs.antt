-- The arcs of the machines of producers: from which state they come to which, at what news, and what they do there. Each machine is walked
-- once, here; what holds of its steps is read off its arcs.
use Rattle.std.proofs.Common.{◌≡◌, subst, ℕ, List, [], ◌∷◌, ◌++◌, refl, Bool, true, false, cond, Option, Some, None, Result, Ok, Err}
use Rattle.pulsar_addresses.specs.Address.{Named, Place}
use Rattle.pulsar_messages.specs.Words.{Words}
use Rattle.pulsar_outgoing.specs.declared.content.Built.{Built}
use Rattle.pulsar_outgoing.specs.declared.news.Drawn.{Drawn}
use Rattle.pulsar_outgoing.specs.declared.orders.Errand.{Errand}
use Rattle.pulsar_outgoing.specs.declared.orders.ProducerOrder.{ProducerOrder}
use Rattle.pulsar_producer.specs.News.{News}
use Rattle.pulsar_producer.specs.declared.building.BuildingProducer.{BuildingProducer as Build}
use Rattle.pulsar_producer.specs.declared.deed.Deed.{Deed}
use Rattle.pulsar_producer.specs.declared.sending.Sending.{Sending as Send}
use Rattle.pulsar_searches.specs.declared.look.Looking.{Looking}
use Rattle.pulsar_searches.specs.declared.making.Command.{Command}
use Rattle.pulsar_searches.specs.declared.making.Making.{Making}
use Rattle.pulsar_searches.specs.declared.making.Served.{Served}
use Rattle.pulsar_searches.specs.declared.names.Naming.{Naming}
use Rattle.pulsar_searches.specs.declared.turn.Action.{Action as Wish}
use Rattle.pulsar_searches.specs.declared.turn.SearchOutcome.{SearchOutcome as Heard}
use Rattle.pulsar_searches.specs.declared.turn.Ways.{Ways}
use Rattle.pulsar_wire.specs.Failures.{Failure, Fault, OfConnection}
use Rattle.pulsar_messages.specs.Content.{ProducerMessageValues}
use Rattle.pulsar_frame.specs.Reply.{Reply}
use Rattle.pulsar_searches.specs.Plans as search
use Rattle.pulsar_searches.specs.Plans.{is_lost}
use Rattle.pulsar_searches.specs.declared.turn.Action.TheVariants as wish
use Rattle.pulsar_producer.specs.Commands.{command}
use Rattle.pulsar_messages.specs.Message.{with_version}
use Rattle.pulsar_producer.specs.Plans as produce
use Rattle.pulsar_producer.specs.Plans.{Builds, fault_told}
use Rattle.pulsar_outgoing.specs.Replies.{given}
use Rattle.pulsar_producer.specs.declared.building.BuildingProducer.TheVariants as build
use Rattle.pulsar_producer.specs.declared.building.Part.{Part}
use Rattle.pulsar_producer.specs.declared.deed.Deed.TheVariants as deed
use Rattle.pulsar_outgoing.specs.declared.news.News.TheVariants as news
use Rattle.pulsar_producer.specs.declared.sending.Sending.TheVariants as send
use Rattle.pulsar_searches.specs.declared.making.Making.TheVariants as making
use Rattle.pulsar_searches.specs.declared.transition.Transition.TheVariants as transition
use Rattle.pulsar_searches.specs.Transitions.{SearchTransition}
use Rattle.pulsar_producer.specs.Transitions.{ProducerTransition}

-- where a step stays, it is so
abbrev pub StepSo : {S A : Type 0} → (S → Deed → Type 0) → ProducerTransition S A → Type 0
StepSo P (transition.Stays s d) = P s d
StepSo P (transition.Gives a) = Unit {0}

step_if : {S A : Type 0} (P : S → Deed → Type 0) (b : Bool) (x y : ProducerTransition S A) → StepSo P x → StepSo P y → StepSo P (cond b x y)
step_if P true x y p q = p
step_if P false x y p q = q

-- A SEND

pub data SendArc (w : Ways) (e : Errand) : Send → News → Send → Deed → Type 0 where
  draws : {m : ProducerMessageValues} {v : Option (List ℕ)} →
      SendArc w e (send.Waiting m) (news.HasTurn v) (send.Drawing (with_version v m)) (deed.Draws e.producer)
  asks : {m : ProducerMessageValues} {d : Drawn} →
      SendArc w e (send.Drawing m) (news.Drew d) (send.Asked (produce.kept e d.room m)) (deed.Sends d.link (produce.send_of e d m))
  drawn_recalls : {m : ProducerMessageValues} {y : News} → SendArc w e (send.Drawing m) y (send.Recalling m) (deed.Recalls e.producer)
  drawn_ends : {m : ProducerMessageValues} {y : News} {f : Failure} → SendArc w e (send.Drawing m) y (send.Ending f) (deed.PassesTurn e.producer)
  queued : {k : Option ProducerMessageValues} → SendArc w e (send.Asked k) news.Queued send.Sent (deed.PassesTurn e.producer)
  stands : {k : Option ProducerMessageValues} → SendArc w e (send.Asked k) news.InLine (send.Asked k) deed.Rests
  asked_recalls : {m : ProducerMessageValues} {y : News} → SendArc w e (send.Asked (Some m)) y (send.Recalling m) (deed.Recalls e.producer)
  asked_ends : {k : Option ProducerMessageValues} {y : News} {f : Failure} → SendArc w e (send.Asked k) y (send.Ending f) (deed.PassesTurn e.producer)
  sent_rests : {y : News} → SendArc w e send.Sent y send.Sent deed.Rests
  recalled_looks_gets : {m : ProducerMessageValues} {c : Command} {k : Looking} {at : Place} → search.look_begins w ≡ transition.Stays k (wish.Get at) →
      SendArc w e (send.Recalling m) (news.Recalled c) (send.Looking m c k) (deed.Does (wish.Get at))
  recalled_looks_asks : {m : ProducerMessageValues} {c : Command} {k : Looking} {l : ℕ} {request : Words} →
      search.look_begins w ≡ transition.Stays k (wish.Ask l request) →
      SendArc w e (send.Recalling m) (news.Recalled c) (send.Looking m c k) (deed.Does (wish.Ask l request))
  recalled_looks_waits : {m : ProducerMessageValues} {c : Command} {k : Looking} {delay : ℕ} → search.look_begins w ≡ transition.Stays k (wish.Wait delay) →
      SendArc w e (send.Recalling m) (news.Recalled c) (send.Looking m c k) (deed.Does (wish.Wait delay))
  recalled_makes : {m : ProducerMessageValues} {c : Command} {k : Making} {at : Place} →
      SendArc w e (send.Recalling m) (news.Recalled c) (send.Making m c k) (deed.Does (wish.Get at))
  recalled_ends : {m : ProducerMessageValues} {y : News} {f : Failure} → SendArc w e (send.Recalling m) y (send.Ending f) (deed.PassesTurn e.producer)
  looks_on_gets : {m : ProducerMessageValues} {c : Command} {s k : Looking} {o : Heard} {at : Place} →
      search.look_told w c.topic s o ≡ transition.Stays k (wish.Get at) →
      SendArc w e (send.Looking m c s) (news.Told o) (send.Looking m c k) (deed.Does (wish.Get at))
  looks_on_asks : {m : ProducerMessageValues} {c : Command} {s k : Looking} {o : Heard} {l : ℕ} {request : Words} →
      search.look_told w c.topic s o ≡ transition.Stays k (wish.Ask l request) →
      SendArc w e (send.Looking m c s) (news.Told o) (send.Looking m c k) (deed.Does (wish.Ask l request))
  looks_on_waits : {m : ProducerMessageValues} {c : Command} {s k : Looking} {o : Heard} {delay : ℕ} →
      search.look_told w c.topic s o ≡ transition.Stays k (wish.Wait delay) →
      SendArc w e (send.Looking m c s) (news.Told o) (send.Looking m c k) (deed.Does (wish.Wait delay))
  looked_makes : {m : ProducerMessageValues} {c : Command} {s : Looking} {k : Making} {o : Heard} {at : Place} →
      SendArc w e (send.Looking m c s) (news.Told o) (send.Making m c k) (deed.Does (wish.Get at))
  looked_ends : {m : ProducerMessageValues} {c : Command} {s : Looking} {y : News} {f : Failure} →
      SendArc w e (send.Looking m c s) y (send.Ending f) (deed.PassesTurn e.producer)
  looking_rests : {m : ProducerMessageValues} {c : Command} {s : Looking} {y : News} → SendArc w e (send.Looking m c s) y (send.Looking m c s) deed.Rests
  makes_on_gets : {m : ProducerMessageValues} {c : Command} {s k : Making} {o : Heard} {at : Place} →
      search.made_told w c s o ≡ transition.Stays k (wish.Get at) → SendArc w e (send.Making m c s) (news.Told o) (send.Making m c k) (deed.Does (wish.Get at))
  makes_on_asks : {m : ProducerMessageValues} {c : Command} {s k : Making} {o : Heard} {l : ℕ} {request : Words} →
      search.made_told w c s o ≡ transition.Stays k (wish.Ask l request) →
      SendArc w e (send.Making m c s) (news.Told o) (send.Making m c k) (deed.Does (wish.Ask l request))
  makes_on_waits : {m : ProducerMessageValues} {c : Command} {s k : Making} {o : Heard} {delay : ℕ} →
      search.made_told w c s o ≡ transition.Stays k (wish.Wait delay) →
      SendArc w e (send.Making m c s) (news.Told o) (send.Making m c k) (deed.Does (wish.Wait delay))
  made_remakes : {m : ProducerMessageValues} {c : Command} {s : Making} {o : Heard} (made : Served) →
      SendArc w e (send.Making m c s) (news.Told o) (send.Remaking m) (deed.Remakes e.producer made.link (given made.reply))
  made_ends : {m : ProducerMessageValues} {c : Command} {s : Making} {y : News} {f : Failure} →
      SendArc w e (send.Making m c s) y (send.Ending f) (deed.PassesTurn e.producer)
  making_rests : {m : ProducerMessageValues} {c : Command} {s : Making} {y : News} → SendArc w e (send.Making m c s) y (send.Making m c s) deed.Rests
  remade_draws : {m : ProducerMessageValues} → SendArc w e (send.Remaking m) news.Done (send.Drawing m) (deed.Draws e.producer)
  remade_ends : {m : ProducerMessageValues} {y : News} {f : Failure} → SendArc w e (send.Remaking m) y (send.Ending f) (deed.PassesTurn e.producer)

recalled_looks : {w : Ways} {e : Errand} {m : ProducerMessageValues} {c : Command} {k : Looking} (a : Wish) → search.look_begins w ≡ transition.Stays k a →
    SendArc w e (send.Recalling m) (news.Recalled c) (send.Looking m c k) (deed.Does a)
recalled_looks (wish.Get at) e = recalled_looks_gets e
recalled_looks (wish.Ask l request) e = recalled_looks_asks e
recalled_looks (wish.Wait delay) e = recalled_looks_waits e

looks_on : {w : Ways} {e : Errand} {m : ProducerMessageValues} {c : Command} {s k : Looking} {o : Heard} (a : Wish) →
    search.look_told w c.topic s o ≡ transition.Stays k a → SendArc w e (send.Looking m c s) (news.Told o) (send.Looking m c k) (deed.Does a)
looks_on (wish.Get at) e = looks_on_gets e
looks_on (wish.Ask l request) e = looks_on_asks e
looks_on (wish.Wait delay) e = looks_on_waits e

makes_on : {w : Ways} {e : Errand} {m : ProducerMessageValues} {c : Command} {s k : Making} {o : Heard} (a : Wish) →
    search.made_told w c s o ≡ transition.Stays k a → SendArc w e (send.Making m c s) (news.Told o) (send.Making m c k) (deed.Does a)
makes_on (wish.Get at) e = makes_on_gets e
makes_on (wish.Ask l request) e = makes_on_asks e
makes_on (wish.Wait delay) e = makes_on_waits e

module _ (w : Ways) (e : Errand) where
  not_drawn : (m : ProducerMessageValues) (y : News) (f : Fault) → StepSo (SendArc w e (send.Drawing m) y) (produce.not_drawn e m f)
  not_drawn m y f = step_if (SendArc w e (send.Drawing m) y) (is_lost f) _ _ drawn_recalls drawn_ends

  not_queued : (k : Option ProducerMessageValues) (y : News) (f : Fault) → StepSo (SendArc w e (send.Asked k) y) (produce.not_queued e k f)
  not_queued None y f = asked_ends
  not_queued (Some m) y f = step_if (SendArc w e (send.Asked (Some m)) y) (is_lost f) _ _ asked_recalls asked_ends

  received : (y : News) (r : Result Reply Fault) → StepSo (SendArc w e send.Sent y) (produce.receipt r)
  received y (Ok r) = tt
  received y (Err f) = tt

  recalled : (m : ProducerMessageValues) (c : Command) (x : SearchTransition Looking (Result Place Failure)) → search.look_begins w ≡ x →
      StepSo (SendArc w e (send.Recalling m) (news.Recalled c)) (produce.send_looks e m c x)
  recalled m c (transition.Stays k x) i = recalled_looks x i
  recalled m c (transition.Gives (Ok place)) i = recalled_makes
  recalled m c (transition.Gives (Err f)) i = recalled_ends

  looked : (m : ProducerMessageValues) (c : Command) (s : Looking) (o : Heard) (x : SearchTransition Looking (Result Place Failure)) →
      search.look_told w c.topic s o ≡ x →
      StepSo (SendArc w e (send.Looking m c s) (news.Told o)) (produce.send_looks e m c x)
  looked m c s o (transition.Stays k x) i = looks_on x i
  looked m c s o (transition.Gives (Ok place)) i = looked_makes
  looked m c s o (transition.Gives (Err f)) i = looked_ends

  made_again : (m : ProducerMessageValues) (c : Command) (s : Making) (o : Heard) (x : SearchTransition Making (Result Served Failure)) →
      search.made_told w c s o ≡ x →
      StepSo (SendArc w e (send.Making m c s) (news.Told o)) (produce.send_makes e m c x)
  made_again m c s o (transition.Stays k x) i = makes_on x i
  made_again m c s o (transition.Gives (Ok made)) i = made_remakes made
  made_again m c s o (transition.Gives (Err f)) i = made_ends

  pub send_arcs : (s : Send) (y : News) → StepSo (SendArc w e s y) (produce.send_told w e s y)
  send_arcs (send.Waiting m) (news.HasTurn v) = draws
  send_arcs (send.Waiting m) _ = tt
  send_arcs (send.Drawing m) (news.Drew d) = asks
  send_arcs (send.Drawing m) y = not_drawn m y (fault_told y)
  send_arcs (send.Asked k) news.Queued = queued
  send_arcs (send.Asked k) news.InLine = stands
  send_arcs (send.Asked k) y = not_queued k y (fault_told y)
  send_arcs send.Sent (news.Told x) = received (news.Told x) (search.verdict 7 x)
  send_arcs send.Sent _ = sent_rests
  send_arcs (send.Recalling m) (news.Recalled c) = recalled m c (search.look_begins w) refl
  send_arcs (send.Recalling m) y = recalled_ends
  send_arcs (send.Looking m c s) (news.Told o) = looked m c s o (search.look_told w c.topic s o) refl
  send_arcs (send.Looking m c s) _ = looking_rests
  send_arcs (send.Making m c s) (news.Told o) = made_again m c s o (search.made_told w c s o) refl
  send_arcs (send.Making m c s) _ = making_rests
  send_arcs (send.Remaking m) news.Done = remade_draws
  send_arcs (send.Remaking m) _ = remade_ends
  send_arcs (send.Ending f) y = tt

-- what it was told, where it is known what it does then
pub send_arc : {w : Ways} {e : Errand} {s q : Send} {y : News} {d : Deed} → produce.send_told w e s y ≡ transition.Stays q d → SendArc w e s y q d
send_arc {w} {e} {s} {y} i = subst (StepSo (SendArc w e s y)) i (send_arcs w e s y)

-- A BUILDING

-- and where it ends, so does its value
abbrev pub StepTo : {S A : Type 0} → (S → Deed → Type 0) → (A → Type 0) → ProducerTransition S A → Type 0
StepTo P E (transition.Stays s d) = P s d
StepTo P E (transition.Gives a) = E a

pub data BuildArc (w : Ways) (o : ProducerOrder) : Build → News → Build → Deed → Type 0 where
  names_on_gets : {n k : Naming} {x : Heard} {at : Place} → search.names_told w o.topic n x ≡ transition.Stays k (wish.Get at) →
      BuildArc w o (build.Naming n) (news.Told x) (build.Naming k) (deed.Does (wish.Get at))
  names_on_asks : {n k : Naming} {x : Heard} {l : ℕ} {request : Words} → search.names_told w o.topic n x ≡ transition.Stays k (wish.Ask l request) →
      BuildArc w o (build.Naming n) (news.Told x) (build.Naming k) (deed.Does (wish.Ask l request))
  names_on_waits : {n k : Naming} {x : Heard} {delay : ℕ} → search.names_told w o.topic n x ≡ transition.Stays k (wish.Wait delay) →
      BuildArc w o (build.Naming n) (news.Told x) (build.Naming k) (deed.Does (wish.Wait delay))
  named_numbers : {n : Naming} {x : Heard} (m : Named) (left : List Named) →
      BuildArc w o (build.Naming n) (news.Told x) (build.Numbering (record { topic = m.name; place = m.place; left = left; made = [] })) deed.Numbers
  naming_rests : {n : Naming} {y : News} → BuildArc w o (build.Naming n) y (build.Naming n) deed.Rests
  numbered_makes : {p : Part} {i : ℕ} →
      BuildArc w o (build.Numbering p) (news.Numbered i) (build.Making (command p.topic i o.name o.options) (making.Getting 0) i p.left p.made)
      (deed.Does (wish.Get p.place))
  held_numbers : {p : Part} → BuildArc w o (build.Numbering p) news.Done (build.Numbering p) deed.Numbers
  numbered_closes : {p : Part} {y : News} {rest : List Built} {f : Failure} (b : Built) → p.made ≡ b ∷ rest →
      BuildArc w o (build.Numbering p) y (build.Closing rest f) (deed.ClosesProducer b.link b.number)
  builds_on_gets : {c : Command} {s k : Making} {i : ℕ} {left : List Named} {made : List Built} {x : Heard} {at : Place} →
      search.made_told w c s x ≡ transition.Stays k (wish.Get at) →
      BuildArc w o (build.Making c s i left made) (news.Told x) (build.Making c k i left made) (deed.Does (wish.Get at))
  builds_on_asks : {c : Command} {s k : Making} {i : ℕ} {left : List Named} {made : List Built} {x : Heard} {l : ℕ} {request : Words} →
      search.made_told w c s x ≡ transition.Stays k (wish.Ask l request) →
      BuildArc w o (build.Making c s i left made) (news.Told x) (build.Making c k i left made) (deed.Does (wish.Ask l request))
  builds_on_waits : {c : Command} {s k : Making} {i : ℕ} {left : List Named} {made : List Built} {x : Heard} {delay : ℕ} →
      search.made_told w c s x ≡ transition.Stays k (wish.Wait delay) →
      BuildArc w o (build.Making c s i left made) (news.Told x) (build.Making c k i left made) (deed.Does (wish.Wait delay))
  built_numbers : {c : Command} {s : Making} {i : ℕ} {m : Named} {left : List Named} {made : List Built} {x : Heard} (new : Served) →
      BuildArc w o (build.Making c s i (m ∷ left) made) (news.Told x)
      (build.Numbering (record { topic = m.name; place = m.place; left = left; made = made ++ produce.built c.topic i new ∷ [] }))
      (deed.Holds new.link i)
  built_closes : {c : Command} {s : Making} {i : ℕ} {b : Built} {left : List Named} {rest : List Built} {x : Heard} {f : Failure} →
      BuildArc w o (build.Making c s i left (b ∷ rest)) (news.Told x) (build.Closing rest f) (deed.ClosesProducer b.link b.number)
  building_rests : {c : Command} {s : Making} {i : ℕ} {left : List Named} {made : List Built} {y : News} →
      BuildArc w o (build.Making c s i left made) y (build.Making c s i left made) deed.Rests
  closes_on : {b : Built} {rest : List Built} {f : Failure} {x : Heard} →
      BuildArc w o (build.Closing (b ∷ rest) f) (news.Told x) (build.Closing rest f) (deed.ClosesProducer b.link b.number)
  closing_rests : {left : List Built} {f : Failure} {y : News} → BuildArc w o (build.Closing left f) y (build.Closing left f) deed.Rests

names_on : {w : Ways} {o : ProducerOrder} {n k : Naming} {x : Heard} (a : Wish) → search.names_told w o.topic n x ≡ transition.Stays k a →
    BuildArc w o (build.Naming n) (news.Told x) (build.Naming k) (deed.Does a)
names_on (wish.Get at) e = names_on_gets e
names_on (wish.Ask l request) e = names_on_asks e
names_on (wish.Wait delay) e = names_on_waits e

builds_on : {w : Ways} {o : ProducerOrder} {c : Command} {s k : Making} {i : ℕ} {left : List Named} {made : List Built} {x : Heard} (a : Wish) →
    search.made_told w c s x ≡ transition.Stays k a → BuildArc w o (build.Making c s i left made) (news.Told x) (build.Making c k i left made) (deed.Does a)
builds_on (wish.Get at) e = builds_on_gets e
builds_on (wish.Ask l request) e = builds_on_asks e
builds_on (wish.Wait delay) e = builds_on_waits e

pub data BuildEnd : Build → News → Result (List Built) Failure → Type 0 where
  none_named : {n : Naming} {x : Heard} → BuildEnd (build.Naming n) (news.Told x) (Ok [])
  build_done : {c : Command} {s : Making} {i : ℕ} {made : List Built} {x : Heard} (new : Served) →
      BuildEnd (build.Making c s i [] made) (news.Told x) (Ok (made ++ produce.built c.topic i new ∷ []))
  build_fails : {b : Build} {y : News} {f : Failure} → BuildEnd b y (Err f)

abbrev pub BuildTo : Ways → ProducerOrder → Build → News → Builds → Type 0
BuildTo w o b y = StepTo (BuildArc w o b y) (BuildEnd b y)

module _ (w : Ways) (o : ProducerOrder) where
  named : (n : Naming) (x : Heard) (names : List Named) → BuildTo w o (build.Naming n) (news.Told x) (produce.build_next deed.Numbers names [])
  named n x [] = none_named
  named n x (m ∷ names) = named_numbers m names

  names : (n : Naming) (x : Heard) (t : SearchTransition Naming (Result (List Named) Failure)) → search.names_told w o.topic n x ≡ t →
      BuildTo w o (build.Naming n) (news.Told x) (produce.build_names t)
  names n x (transition.Stays k a) i = names_on a i
  names n x (transition.Gives (Ok found)) i = named n x found
  names n x (transition.Gives (Err f)) i = build_fails

  unnumbered : (p : Part) (y : News) (made : List Built) (f : Failure) → p.made ≡ made → BuildTo w o (build.Numbering p) y (produce.build_closes made f)
  unnumbered p y [] f e = build_fails
  unnumbered p y (b ∷ made) f e = numbered_closes b e

  closed : (left : List Built) (f : Failure) (x : Heard) → BuildTo w o (build.Closing left f) (news.Told x) (produce.build_closes left f)
  closed [] f x = build_fails
  closed (b ∷ rest) f x = closes_on

  module _ (c : Command) (s : Making) (i : ℕ) (x : Heard) where
    built : (left : List Named) (made : List Built) (new : Served) →
        BuildTo w o (build.Making c s i left made) (news.Told x) (produce.build_made c.topic i left made new)
    built [] made new = build_done new
    built (m ∷ left) made new = built_numbers new

    unmade : (left : List Named) (made : List Built) (f : Failure) →
        BuildTo w o (build.Making c s i left made) (news.Told x) (produce.build_closes made f)
    unmade left [] f = build_fails
    unmade left (b ∷ made) f = built_closes

    makes : (left : List Named) (made : List Built) (t : SearchTransition Making (Result Served Failure)) → search.made_told w c s x ≡ t →
        BuildTo w o (build.Making c s i left made) (news.Told x) (produce.build_makes c i left made t)
    makes left made (transition.Stays k a) e = builds_on a e
    makes left made (transition.Gives (Ok new)) e = built left made new
    makes left made (transition.Gives (Err f)) e = unmade left made f

pub build_arcs : (w : Ways) (o : ProducerOrder) (b : Build) (y : News) → BuildTo w o b y (produce.build_told w o b y)
build_arcs w o (build.Naming n) (news.Told x) = names w o n x (search.names_told w o.topic n x) refl
build_arcs w o (build.Naming n) _ = naming_rests
build_arcs w o (build.Numbering p) (news.Numbered n) = numbered_makes
build_arcs w o (build.Numbering p) news.Done = held_numbers
build_arcs w o (build.Numbering p) y = unnumbered w o p y p.made (OfConnection (fault_told y)) refl
build_arcs w o (build.Making c s i left made) (news.Told x) = makes w o c s i x left made (search.made_told w c s x) refl
build_arcs w o (build.Making c s i left made) _ = building_rests
build_arcs w o (build.Closing left f) (news.Told x) = closed w o left f x
build_arcs w o (build.Closing left f) _ = closing_rests
