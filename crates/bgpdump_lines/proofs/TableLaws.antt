-- What stands in the lines of tables whatever the time of their records.
use Rattle.std.proofs.Common.{◌≡◌, ◌∷◌, ◌++◌}
use Rattle.mrt_events.specs.declared.event.Route.{Route}
use Rattle.bgpdump_lines.specs.declared.heading.Heading.{Heading}
use Rattle.bgpdump_lines.specs.Lines.{bar, route_time_text, route_letter}
use Rattle.bgpdump_lines.specs.Heading.{first_field_of_kind, first_three_fields}
use Rattle.bgpdump_lines.specs.CachedLines.{IsTableHeading, table_line_head}

-- the first three fields don't depend on it
pub first_three_fields-tables : (heading : Heading) (route : Route) → IsTableHeading heading → first_three_fields heading route ≡ table_line_head route.time
first_three_fields-tables heading route is = λ i. first_field_of_kind (is.0 i) (is.1 i) ++ bar ∷ (route_time_text heading.time (is.1 i) route ++ bar ∷ route_letter (is.1 i))
