-- What the octets of the TABLE_DUMP with AS4_PATH of `specs/Examples.antt` spell, field by field.
use Rattle.std.proofs.Common.{◌≡◌, ℕ, ◌≤◌, List, [], ◌∷◌, ◌++◌, length, take, drop, refl, sym, ap, arith, Some, None, inl}
use Rattle.std.proofs.lemmas.List.Sums.{sum_by-append}
use Rattle.ip_prefix.specs.declared.addr.Family.TheVariants.{V4}
use Rattle.ip_prefix.specs.Sequences.{SpellsAll}
use Rattle.bgp_wire.specs.Attribute.{Attribute, SpellsAttribute}
use Rattle.bgp_wire.specs.Content.{AreAttrsOf, SpellsRibAttrs}
use Rattle.bgp_wire.specs.declared.AsPath.{AsPath}
use Rattle.bgp_wire.specs.declared.AsWidth.TheVariants.{Two, Four}
use Rattle.bgp_wire.specs.declared.SegmentKind.TheVariants.{AsSequence}
use Rattle.bgp_wire.specs.Merge.{PathUnit, units_from, unit_weight, units_weight, IsMerge}
use Rattle.bgp_wire.specs.Path.{SpellsPath}
use Rattle.mrt_events.specs.declared.stamp.Stamp.{Stamp}
use Rattle.mrt_wire.specs.Record.{IsRecord}
use Rattle.mrt_wire.specs.Results.{PeerTable, ReadsAs}
use Rattle.mrt_wire.specs.Rib.{AreTableDumpFields}
use Rattle.bgpdump_lines.specs.Examples.{ipv4_address, example_peer, example_prefix, as4_attrs, as4_attribute_octets, as4_table_dump_body, as4_table_dump_frame}
use Rattle.bgpdump_lines.proofs.ExampleLaws.{front, both, is_record, address, hop, ten_as_address}

-- ---- the joined path

-- AS_PATH
abbrev own : AsPath
own = record { segments = record { numbers = 64500 ∷ 23456 ∷ 64501 ∷ []; kind = AsSequence } ∷ [] }

-- AS4_PATH
abbrev as4 : AsPath
as4 = record { segments = record { numbers = 4200000001 ∷ 64501 ∷ []; kind = AsSequence } ∷ [] }

-- what the first and the second unit count
first_weight : List PathUnit → ℕ
first_weight [] = 0
first_weight (unit ∷ units) = unit_weight unit

second_weight : List PathUnit → ℕ
second_weight [] = 0
second_weight (unit ∷ units) = first_weight units

-- a beginning of AS_PATH that counts one AS has one unit
one_unit : (other left : List PathUnit) → units_from 0 own.segments ≡ other ++ left → units_weight other ≡ 1 → length other ≤ 1
unfolding first_weight second_weight
one_unit [] left e w = omega arith
one_unit (unit ∷ []) left e w = omega arith
one_unit (unit ∷ next ∷ units) left e w =
    let first : unit_weight unit ≡ 1 = sym (ap first_weight e) in
    let second : unit_weight next ≡ 1 = sym (ap second_weight e) in
    omega (arith, w, first, second, sum_by-append unit_weight (unit ∷ next ∷ []) units)

-- AS_PATH joined with AS4_PATH
joined : IsMerge own as4 as4_attrs.path
joined = record {
  shorter = λ less. absurd (omega (arith, less));
  joined = λ more. (take 1 (units_from 0 own.segments), record { rest = drop 1 (units_from 0 own.segments); whole = refl; weighs = refl; longest = one_unit }, refl);
}

-- ---- attributes

-- the attributes
abbrev attributes : List Attribute
attributes =
    record { flags = 0x40; kind = 1; value = 0 ∷ [] }
    ∷ record { flags = 0x40; kind = 2; value = take 8 (drop 7 as4_attribute_octets) }
    ∷ record { flags = 0x40; kind = 3; value = 192 ∷ 0 ∷ 2 ∷ 9 ∷ [] }
    ∷ record { flags = 0xC0; kind = 7; value = 0x5B ∷ 0xA0 ∷ 192 ∷ 0 ∷ 2 ∷ 2 ∷ [] }
    ∷ record { flags = 0xC0; kind = 17; value = take 10 (drop 34 as4_attribute_octets) }
    ∷ record { flags = 0xC0; kind = 18; value = drop 47 as4_attribute_octets } ∷ []

-- their octets
attributes_spelled : SpellsAll SpellsAttribute attributes as4_attribute_octets
attributes_spelled = (
  _,
  front 4 (record { flags_fit = omega arith; kind_fits = omega arith; length_fits = omega arith; whole = refl }),
  (
    _,
    front 11 (record { flags_fit = omega arith; kind_fits = omega arith; length_fits = omega arith; whole = refl }),
    (
      _,
      front 7 (record { flags_fit = omega arith; kind_fits = omega arith; length_fits = omega arith; whole = refl }),
      (
        _,
        front 9 (record { flags_fit = omega arith; kind_fits = omega arith; length_fits = omega arith; whole = refl }),
        (
          _,
          front 13 (record { flags_fit = omega arith; kind_fits = omega arith; length_fits = omega arith; whole = refl }),
          (_, front 11 (record { flags_fit = omega arith; kind_fits = omega arith; length_fits = omega arith; whole = refl }), refl),
        ),
      ),
    ),
  ),
)

-- the octets of AS_PATH
own_spelled : SpellsPath Two own (take 8 (drop 7 as4_attribute_octets))
own_spelled = (
  _,
  front 8 (record {
    some = omega arith;
    count_fits = omega arith;
    body = take 6 (drop 9 as4_attribute_octets);
    spelled = (
      _,
      front 2 (record { fits = omega arith; whole = refl }),
      (
        _,
        front 2 (record { fits = omega arith; whole = refl }),
        (_, front 2 (record { fits = omega arith; whole = refl }), refl),
      ),
    );
    whole = refl;
  }),
  refl,
)

-- the octets of AS4_PATH
as4_spelled : SpellsPath Four as4 (take 10 (drop 34 as4_attribute_octets))
as4_spelled = (
  _,
  front 10 (record {
    some = omega arith;
    count_fits = omega arith;
    body = take 8 (drop 36 as4_attribute_octets);
    spelled =
        (_, front 4 (record { fits = omega arith; whole = refl }), (_, front 4 (record { fits = omega arith; whole = refl }), refl));
    whole = refl;
  }),
  refl,
)

-- what the attributes say
said : AreAttrsOf Two as4_attrs attributes
said =
    record {
      short = (refl, tt, tt, tt);
      passed = record {
        own_path = own;
        path_spelled = own_spelled;
        own = Some record { addr = ipv4_address (192 ∷ 0 ∷ 2 ∷ 2 ∷ []); asn = 23456 };
        own_spelled = (
          Two,
          record {
            number = 0x5B ∷ 0xA0 ∷ [];
            spelled = record { fits = omega arith; whole = refl };
            address = 192 ∷ 0 ∷ 2 ∷ 2 ∷ [];
            addressed = record { of_family = refl; spelled = (address _ refl).spelled };
            whole = refl;
          },
        );
        as4 = Some record { addr = ipv4_address (192 ∷ 0 ∷ 2 ∷ 3 ∷ []); asn = 4200000001 };
        as4_spelled = record {
          number = 0xFA ∷ 0x56 ∷ 0xEA ∷ 0x01 ∷ [];
          spelled = record { fits = omega arith; whole = refl };
          address = 192 ∷ 0 ∷ 2 ∷ 3 ∷ [];
          addressed = record { of_family = refl; spelled = (address _ refl).spelled };
          whole = refl;
        };
        path_joined = inl (as4, as4_spelled, joined);
        aggregator_joined = refl;
      };
      communities = refl;
    }

-- ---- the record

pub as4_table_dump_read : (stamp : Stamp) (index : PeerTable) → IsRecord (as4_table_dump_frame stamp).mrt × ReadsAs stamp index (as4_table_dump_frame stamp).mrt (as4_table_dump_frame stamp).outcome
as4_table_dump_read stamp index = (
  is_record _ (omega arith) (omega arith) (omega arith) (omega arith),
  record { is_body = (_, refl, (_, refl, (_, _, as4_attribute_octets, [], front 77 fields, attrs))); sound = refl; made = refl },
)
  where
    attrs : SpellsRibAttrs V4 Two as4_attrs as4_attribute_octets
    attrs =
        record {
          list = attributes;
          spelled = attributes_spelled;
          said = said;
          hop_said = record { own = Some _; reached = None; own_spelled = hop; reached_spelled = tt; once = refl; chosen = refl };
        }

    fields : AreTableDumpFields V4 (0 ∷ 0 ∷ 0 ∷ 0 ∷ [], (example_prefix, (1 ∷ [], (50, (example_peer, as4_attribute_octets))))) as4_table_dump_body
    fields =
        both 4 (record { long = refl; whole = refl }) (both 5 ten_as_address (both 1 (record { long = refl; whole = refl })
        (both 4 (record { fits = omega arith; whole = refl })
        (both 6 (both 4 (address _ refl) (record { fits = omega arith; whole = refl })) (record { fits = omega arith; whole = refl })))))
