use Rattle.record_wire.proofs.Words.{refl}
use Rattle.record_wire.proofs.Lines.{kind_put, name_put, mail_put, service_put}
use Rattle.record_wire.proofs.Puts.{◌then◌}
use Rattle.record_wire.proofs.line.put_data.Goals as goal

pub returns-in-Name : goal.returns-in-Name
returns-in-Name g c =
    rw c.in-Name.is (kind_put g.S.Sink.took _ _ _ _ _ (λ shown why. name_put _ _ _ shown why) c.put_named.ensures)

pub returns-in-Mx : goal.returns-in-Mx
returns-in-Mx g c =
    rw c.in-Mx.is
    (kind_put g.S.Sink.took _ _ _ _ _ (λ shown why. mail_put _ _ _ shown c.in-Mx.preference why)
    c.put_named-in-Mx.ensures)

pub returns-in-Srv : goal.returns-in-Srv
returns-in-Srv g c =
    rw c.in-Srv.is
    (kind_put g.S.Sink.took _ _ _ _ _
    (λ shown why. service_put _ _ _ shown c.in-Srv.priority c.in-Srv.weight c.in-Srv.port why)
    c.put_named-in-Srv.ensures)

pub returns-in-Soa : goal.returns-in-Soa
returns-in-Soa g c = rw c.in-Soa.is c.put_authority.ensures

pub returns-in-Fields : goal.returns-in-Fields
returns-in-Fields g c = rw c.in-Fields.is c.put_fields.ensures

pub returns-in_ok-put_v4-in-A : goal.returns-in_ok-put_v4-in-A
returns-in_ok-put_v4-in-A g c =
    rw c.in-A.is (_, (_, refl, refl), c.in_ok-put_front-in-A.ensures.calls then c.in_ok-put_v4-in-A.ensures.calls)

pub returns-in_ok-put_v6-in-Aaaa : goal.returns-in_ok-put_v6-in-Aaaa
returns-in_ok-put_v6-in-Aaaa g c =
    rw c.in-Aaaa.is (
      _,
      (_, refl, refl),
      c.in_ok-put_front-in-Aaaa.ensures.calls then
          c.in_ok-put_v6-in-Aaaa.ensures.calls,
    )

pub returns-in_ok-put_strings-in-Txt : goal.returns-in_ok-put_strings-in-Txt
returns-in_ok-put_strings-in-Txt g c =
    rw c.in-Txt.is (
      _,
      (_, refl, refl),
      c.in_ok-put_front-in-Txt.ensures.calls then
          c.in_ok-put_strings-in-Txt.ensures.calls,
    )

pub returns-in_ok-put_generic-in-Other : goal.returns-in_ok-put_generic-in-Other
returns-in_ok-put_generic-in-Other g c =
    rw c.in-Other.is (
      _,
      (_, refl, refl),
      c.in_ok-put_front-in-Other.ensures.calls then
          c.in_ok-put_generic-in-Other.ensures.calls,
    )
