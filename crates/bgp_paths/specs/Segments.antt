-- The segments of an AS path, wherever they are in memory.
use Rattle.std.specs.Prelude.{List, [], ◌∷◌}
use Rattle.bgp_paths.specs.declared.segment.Segment.{Segment}
use Rattle.bgp_paths.specs.declared.segments.Held.{Held}
use Rattle.bgp_paths.specs.declared.segments.Held.TheVariants.{One, Listed}

-- the segments of an AS path, in order: the one that is held in place, or those of the vector
abbrev pub held_segments : Held → List Segment
held_segments (One segment) = segment ∷ []
held_segments (Listed segments) = segments.items
