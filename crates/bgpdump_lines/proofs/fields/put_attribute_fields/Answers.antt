use Rattle.std.proofs.Common.{append_assoc}
use Rattle.bgpdump_lines.proofs.fields.put_attribute_fields.Goals as goal

-- from the last field to the first, each before what stands behind it
pub returns : goal.returns
returns c = (
  rw (
    c.in_ok-extend_from_slice.ensures.appended,
    c.in_ok-put_aggregator_field.ensures.0,
    append_assoc,
    c.in_ok-put_atomic_field.ensures.0,
    append_assoc,
    c.in_ok-put_community_field.ensures.0,
    append_assoc,
    c.in_ok-put_optional_u32_field-2.ensures.0,
    append_assoc,
    c.in_ok-put_optional_u32_field.ensures.0,
    append_assoc,
    c.in_ok-put_next_hop_field.ensures.0,
    append_assoc,
    c.in_ok-put_origin_field.ensures.0,
    append_assoc,
    c.in_ok-append_to.ensures.appended,
    append_assoc,
    c.in_ok-push.ensures.appended,
    append_assoc,
  ),
  tt,
)
