use Rattle.std.proofs.Common.{◌≡◌, ℕ, MatchOption, Option, [], refl, ap, ◌∙◌, subst}
use Rattle.host_heap.specs.Again.{HandsAgain, HasNoneIdle}
use Rattle.host_heap.specs.Hosting.{Hosting}
use Rattle.host_heap.specs.Sessions.{Seated}
use Rattle.zelamiku.specs.Handles.{heap_held, session_held}
use Rattle.zelamiku.specs.HeapDoors.{HandsOne, IsHanded, IsHandedAgain, NoneIsLeft, NoRoomForOne}
use Rattle.zelamiku.specs.Own.{Held}
use Rattle.zelamiku.specs.declared.status.TheConstants.{NONE_LEFT, NO_MEMORY, OK}
use Rattle.zelamiku.proofs.heap_calls.hand_out.Goals as goal

-- the heap before, after it handed out no session of its own, and after it looked for one that has ended
handed_again : (x w y : Hosting) (s : Seated) (handed : Held) (status : ℕ) → w ≡ x → x.unused ≡ [] → HandsAgain w y s → handed ≡ session_held s → status ≡ OK → HandsOne x handed (heap_held y) status
handed_again x w y s handed status same none again is ok = IsHandedAgain y s none (subst (λ (v : Hosting). HandsAgain v y s) same again) is refl ok

none_left : (x w y : Hosting) (handed : Held) → w ≡ x → x.unused ≡ [] → HasNoneIdle w y → HandsOne x handed (heap_held y) NONE_LEFT
none_left x w y handed same none idle = NoneIsLeft y none (subst (λ (v : Hosting). HasNoneIdle v y) same idle) refl refl

no_room : (x w y : Hosting) (handed : Held) → w ≡ x → y ≡ w → HandsOne x handed (heap_held y) NO_MEMORY
no_room x w y handed same again = NoRoomForOne (ap (λ (v : Hosting). heap_held v) (again ∙ same)) refl

pub returns-in-Some-clause-handed : goal.returns-in-Some-clause-handed
returns-in-Some-clause-handed c =
    let told = c.in-Some.ensures in
    IsHanded
    c.session.new.self
    c.in-Some.session
    (record {
      lane = told.next;
      untold = told.untold;
      home_is = told.home;
      word_is = told.word;
      end = told.out.0;
      out = told.out.1;
      awaited = told.out.2;
      joined = told.joined;
      home = told.same.0;
      helper = told.same.1;
      calls = told.same.2;
      stop = told.same.3;
    })
    c.put_session.ensures.handed
    refl
    c.put_session.ensures.ok

pub returns-in-Ok-Some-clause-handed : goal.returns-in-Ok-Some-clause-handed
returns-in-Ok-Some-clause-handed c =
    let x : Hosting = c.args.heap.now in
    let w : Hosting = c.session.new.self in
    let y : Hosting = c.session_again.new.self in
    let again : HandsAgain w y c.in-Ok-Some.session = subst (λ (o : Option Seated). MatchOption o (HasNoneIdle w y) (HandsAgain w y)) c.in-Ok-Some.field-0-is c.in-Ok-Some.ensures.again in
    handed_again x w y c.in-Ok-Some.session c.put_session-in-Ok-Some.new.place.handle.state c.put_session-in-Ok-Some.result (c.session.ensures.none c.in_default-session.is) c.in_default-session.ensures.next
    again c.put_session-in-Ok-Some.ensures.handed c.put_session-in-Ok-Some.ensures.ok

pub returns-in-Ok-None-clause-handed : goal.returns-in-Ok-None-clause-handed
returns-in-Ok-None-clause-handed c =
    let x : Hosting = c.args.heap.now in
    let w : Hosting = c.session.new.self in
    let y : Hosting = c.session_again.new.self in
    let none : HasNoneIdle w y = subst (λ (o : Option Seated). MatchOption o (HasNoneIdle w y) (HandsAgain w y)) c.in-Ok-None.field-0-is c.in-Ok-None.ensures.again in
    none_left x w y c.args.place.now.handle.state (c.session.ensures.none c.in_default-session.is) c.in_default-session.ensures.next none

pub returns-in-Err-clause-handed : goal.returns-in-Err-clause-handed
returns-in-Err-clause-handed c =
    no_room c.args.heap.now c.session.new.self c.session_again.new.self c.args.place.now.handle.state (c.session.ensures.none c.in_default-session.is) c.in-Err.ensures.err
