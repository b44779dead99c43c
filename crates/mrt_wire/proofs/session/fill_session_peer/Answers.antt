use Rattle.std.proofs.Common.{ℕ, List, subst}
use Rattle.ip_prefix.specs.Fronts.{BeginsWithNone}
use Rattle.ip_prefix.specs.Sequences.{Begins}
use Rattle.octet_forms.proofs.Fields.{both_front, none_first, none_second}
use Rattle.bgp_wire.specs.Path.{asn_size}
use Rattle.mrt_wire.specs.Fields.{AreOctets}
use Rattle.mrt_wire.specs.Session.{AreAsnFields}
use Rattle.mrt_wire.proofs.FieldFronts.{address_front, asn_front, octets_front}
use Rattle.mrt_wire.proofs.SessionLaws.{family_front, no_systems, no_addresses, a_session}
use Rattle.mrt_wire.proofs.session.fill_session_peer.Goals as goal
use Rattle.mrt_wire.proofs.session.fill_session_peer.Goals.{In_ok-after_systems}

pub returns-in_err-asn-clause-none : goal.returns-in_err-asn-clause-none
returns-in_err-asn-clause-none c = rw c.from_residual.ensures (no_systems c.args.width c.args.octets.now (none_first _ _ c.args.octets.now c.in_err-asn.ensures))

pub returns-in_err-after_local-clause-none : goal.returns-in_err-after_local-clause-none
returns-in_err-after_local-clause-none c =
    let asn = c.in_ok-asn.asn in
    rw c.from_residual-in_err-after_local.ensures
    (no_systems c.args.width c.args.octets.now (none_second _ _ (asn_front c.args.width) asn.value asn.rest.now c.args.octets.now c.in_ok-asn.ensures
    (none_first _ _ asn.rest.now (subst (λ n. BeginsWithNone (AreOctets n) asn.rest.now) c.octets.ensures c.in_err-after_local.ensures.none))))

pub returns-in_err-after_systems-clause-none : goal.returns-in_err-after_systems-clause-none
returns-in_err-after_systems-clause-none c =
    let asn = c.in_ok-asn.asn in
    let local = c.in_ok-after_local.ensures.some in
    rw c.from_residual-in_err-after_systems.ensures
    (no_systems c.args.width c.args.octets.now (none_second _ _ (asn_front c.args.width) asn.value asn.rest.now c.args.octets.now c.in_ok-asn.ensures
    (none_second _ _ (octets_front (asn_size c.args.width)) local.0 c.in_ok-after_local.after_local.now asn.rest.now
    (subst (λ n. Begins (AreOctets n) local.0 c.in_ok-after_local.after_local.now asn.rest.now) c.octets.ensures local.1) c.in_err-after_systems.ensures.none)))

-- both AS numbers and the interface stand there
systems : (c : In_ok-after_systems) → (local interface : List ℕ) × Begins (AreAsnFields c.args.width) (c.in_ok-asn.asn.value, (local, interface)) c.in_ok-after_systems.after_systems.now c.args.octets.now
systems c =
    let asn = c.in_ok-asn.asn in
    let local = c.in_ok-after_local.ensures.some in
    let interface = c.in_ok-after_systems.ensures.some in
    let rest = c.in_ok-after_systems.after_systems.now in (
      local.0,
      interface.0,
      both_front _ _ asn.value (local.0, interface.0) asn.rest.now rest c.args.octets.now c.in_ok-asn.ensures
          (both_front _ _ local.0 interface.0 c.in_ok-after_local.after_local.now rest asn.rest.now (subst (λ n. Begins (AreOctets n) local.0 c.in_ok-after_local.after_local.now asn.rest.now) c.octets.ensures local.1) interface.1),
    )

pub returns-in_err-family-clause-none : goal.returns-in_err-family-clause-none
returns-in_err-family-clause-none c =
    let systems = systems (goal.at.returns-in_err-family-clause-none c).In_ok-after_systems in
    let after = c.in_ok-after_systems.after_systems.now in
    rw c.from_residual-in_err-family.ensures
    (no_addresses c.args.width (c.in_ok-asn.asn.value, (systems.0, systems.1)) after c.args.octets.now systems.2 (none_first _ _ after c.in_err-family.ensures))

pub returns-in_err-after_peer-clause-none : goal.returns-in_err-after_peer-clause-none
returns-in_err-after_peer-clause-none c =
    let systems = systems (goal.at.returns-in_err-after_peer-clause-none c).In_ok-after_systems in
    let after = c.in_ok-after_systems.after_systems.now in
    let family = c.in_ok-family.family in
    rw c.from_residual-in_err-after_peer.ensures
    (no_addresses c.args.width (c.in_ok-asn.asn.value, (systems.0, systems.1)) after c.args.octets.now systems.2
    (none_second _ _ family_front family.value family.rest.now after c.in_ok-family.ensures (none_first _ _ family.rest.now c.in_err-after_peer.ensures.none)))

pub returns-in_err-rest-clause-none : goal.returns-in_err-rest-clause-none
returns-in_err-rest-clause-none c =
    let systems = systems (goal.at.returns-in_err-rest-clause-none c).In_ok-after_systems in
    let after = c.in_ok-after_systems.after_systems.now in
    let family = c.in_ok-family.family in
    let behind = c.in_ok-after_peer.after_peer.now in
    rw c.from_residual-in_err-rest.ensures
    (no_addresses c.args.width (c.in_ok-asn.asn.value, (systems.0, systems.1)) after c.args.octets.now systems.2
    (none_second _ _ family_front family.value family.rest.now after c.in_ok-family.ensures
    (none_second _ _ (address_front family.value) c.fill_address.new.addr behind family.rest.now c.in_ok-after_peer.ensures.some
    (subst (λ n. BeginsWithNone (AreOctets n) behind) c.address_octets.ensures c.in_err-rest.ensures.none))))

pub returns-clause-some : goal.returns-clause-some
returns-clause-some c =
    let systems = systems (goal.at.returns-clause-some c).In_ok-after_systems in
    let after = c.in_ok-after_systems.after_systems.now in
    let family = c.in_ok-family.family in
    let addr = c.fill_address.new.addr in
    let behind = c.in_ok-after_peer.after_peer.now in
    let local = c.in_ok-rest.ensures.some in
    let rest = c.in_ok-rest.rest.now in
    a_session c.args.width c.in_ok-asn.asn.value systems.0 systems.1 family.value addr local.0 after rest c.args.octets.now systems.2
    (both_front _ _ family.value (addr, local.0) family.rest.now rest after c.in_ok-family.ensures
    (both_front _ _ addr local.0 behind rest family.rest.now c.in_ok-after_peer.ensures.some (subst (λ n. Begins (AreOctets n) local.0 rest behind) c.address_octets.ensures local.1)))
