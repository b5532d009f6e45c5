-- What each deed does to a consumer, and whether it ends it; so do the acts that do these deeds.
use Rattle.std.proofs.Common.{◌≡◌, sym, ℕ, ◌==◌, ◌&&◌, ◌||◌, List, [], ◌∷◌, ◌++◌, append-nil, refl, Bool, true, false, cond}
use Rattle.std.specs.Option.{is_some}
use Rattle.pulsar_laws.proofs.ActWords.{Act, Ask, Comes, Does, Ends, OfConsumer, Polls, Reads, Revive, StopAll, TakeFlow, ToLink}
use Rattle.pulsar_laws.proofs.RunWords.{View}
use Rattle.pulsar_laws.proofs.LinkWords.{answer_at, arrival_at, closing, is_asked, url_at}
use Rattle.pulsar_calls.specs.declared.act.ConsumerAsk.TheVariants.{Find, Recall, Fail}
use Rattle.pulsar_calls.specs.Who.{ticket_of}
use Rattle.pulsar_consumer.specs.Topic.{Act as Done, Asks, Ends as Over, Fails, Polls as Polled, lives_on}
use Rattle.pulsar_exchange.specs.Request.{closed_consumer}
use Rattle.pulsar_incoming.specs.declared.polled.Ending.TheVariants.{Stopped}
use Rattle.pulsar_consumer_table.specs.Consumers.{Arrives, ClientStops, CloseAsked, Deed, FlowTaken, IsPolled, IsSought, LinkEnds, Member, NotRevived, Revived, is_closed_by, member_by}
use Rattle.pulsar_run.specs.Things.{along}
use Rattle.pulsar_acts.specs.View.{member_acts}
use Rattle.pulsar_laws.specs.ConsumerLaws.{arrival_does, arrival_ends, close_does, does_to, ends_by, loss_does, subscription_does}

abbrev pub deed_does : Deed → Member → List Done
deed_does (Arrives l a) m = arrival_does l a m.seen
deed_does (LinkEnds l cause) m = loss_does l cause
deed_does (CloseAsked closed l is_asked) m = close_does closed l is_asked m
deed_does (IsPolled clock) m = Polled clock ∷ []
deed_does (IsSought who) m = []
deed_does FlowTaken m = Asks ∷ []
deed_does (Revived l url) m = subscription_does l url
deed_does (NotRevived f) m = Fails f ∷ []
deed_does ClientStops m = Over Stopped ∷ []

-- several, the newest first
abbrev pub deeds_do : List Deed → Member → List Done
deeds_do [] m = []
deeds_do (d ∷ ds) m = deed_does d (along member_by ds m) ++ deeds_do ds m

abbrev pub deed_ends : Deed → Member → Bool
deed_ends (Arrives l a) m = arrival_ends l a m.seen
deed_ends (LinkEnds l cause) m = is_some cause && (lives_on l m.seen && m.seen.is_raw)
deed_ends (CloseAsked closed l is_asked) m = is_asked && is_closed_by closed l m
deed_ends (IsPolled clock) m = false
deed_ends (IsSought who) m = false
deed_ends FlowTaken m = false
deed_ends (Revived l url) m = false
deed_ends (NotRevived f) m = true
deed_ends ClientStops m = true

abbrev pub deeds_end : List Deed → Member → Bool
deeds_end [] m = false
deeds_end (d ∷ ds) m = deeds_end ds m || deed_ends d (along member_by ds m)

-- one deed, where it is done
one_does : (b : Bool) (d : Deed) (m : Member) → cond b (deed_does d m) [] ≡ deeds_do (cond b (d ∷ []) []) m
one_does true d m = sym (append-nil (deed_does d m))
one_does false d m = refl

one_ends : (b : Bool) (d : Deed) (m : Member) → (b && deed_ends d m) ≡ deeds_end (cond b (d ∷ []) []) m
one_ends true d m = refl
one_ends false d m = refl

none_does : (b : Bool) (ds : List Deed) (m : Member) → deeds_do ds m ≡ [] → [] ≡ deeds_do (cond b ds []) m
none_does true ds m h = sym h
none_does false ds m h = refl

none_ends : (b : Bool) (ds : List Deed) (m : Member) → deeds_end ds m ≡ false → false ≡ deeds_end (cond b ds []) m
none_ends true ds m h = sym h
none_ends false ds m h = refl

own_ends : (b : Bool) (f : Deed) (m : Member) → deed_ends f m ≡ true → b ≡ deeds_end (cond b (f ∷ []) []) m
own_ends true f m h = sym h
own_ends false f m h = refl

-- WHAT AN ACT DOES is what its deeds do
pub same_does : (v : View) (t : ℕ) (m : Member) (a : Act) → does_to v t m a ≡ deeds_do (member_acts v t a) m
same_does v t m (Comes (ToLink l Reads)) = one_does true (Arrives l (arrival_at (v.links.live l))) m
same_does v t m (Comes (ToLink l (Ends end))) = one_does true (LinkEnds l (closing end v.now (v.links.live l))) m
same_does v t m (Comes (Polls u)) = one_does (t == u) (IsPolled v.now) m
same_does v t m (Does w (Ask l request)) = one_does true (CloseAsked (closed_consumer request) l (is_asked (answer_at v.now request (v.links.live l)))) m
same_does v t m (Does w (OfConsumer (Find u))) = none_does (t == u) (IsSought w ∷ []) m refl
same_does v t m (Does w (OfConsumer TakeFlow)) = one_does (t == ticket_of w) FlowTaken m
same_does v t m (Does w (OfConsumer Recall)) = none_does (t == ticket_of w) [] m refl
same_does v t m (Does w (OfConsumer (Revive l))) = one_does (t == ticket_of w) (Revived l (url_at (v.links.live l))) m
same_does v t m (Does w (OfConsumer (Fail f))) = one_does (t == ticket_of w) (NotRevived f) m
same_does v t m (Does w StopAll) = refl
same_does v t m a = refl

pub same_ends : (v : View) (t : ℕ) (m : Member) (a : Act) → ends_by v t m a ≡ deeds_end (member_acts v t a) m
same_ends v t m (Comes (ToLink l Reads)) = refl
same_ends v t m (Comes (ToLink l (Ends end))) = refl
same_ends v t m (Comes (Polls u)) = none_ends (t == u) (IsPolled v.now ∷ []) m refl
same_ends v t m (Does w (Ask l request)) = refl
same_ends v t m (Does w (OfConsumer (Find u))) = none_ends (t == u) (IsSought w ∷ []) m refl
same_ends v t m (Does w (OfConsumer TakeFlow)) = none_ends (t == ticket_of w) (FlowTaken ∷ []) m refl
same_ends v t m (Does w (OfConsumer Recall)) = none_ends (t == ticket_of w) [] m refl
same_ends v t m (Does w (OfConsumer (Revive l))) = none_ends (t == ticket_of w) (Revived l (url_at (v.links.live l)) ∷ []) m refl
same_ends v t m (Does w (OfConsumer (Fail f))) = own_ends (t == ticket_of w) (NotRevived f) m refl
same_ends v t m (Does w StopAll) = refl
same_ends v t m a = refl
