-- Each entity has a kind of its own.
use Rattle.std.proofs.Common.{◌≡◌, Option, None, Some, refl, sym, ap, ◌∙◌}
use Rattle.numbered_arguments.specs.declared.Kind.{Kind}
use Rattle.numbered_arguments.specs.declared.Kind.TheVariants.{Float, Vector, Count, Object, Number, Date}
use Rattle.numbered_arguments.specs.declared.Size.TheVariants.{Plain, Short, Long, LongLong, Native}
use Rattle.gcc_internal_format.specs.declared.entities.Entity.{Entity}
use Rattle.gcc_internal_format.specs.declared.entities.Entity.TheVariants as entities
use Rattle.gcc_internal_format.specs.GccEntities.{stand_in, IsPlain}

-- the entity that a kind stands for
abbrev entity_behind : Kind → Option Entity
entity_behind Object = Some entities.Location
entity_behind Vector = Some entities.Declaration
entity_behind Date = Some entities.Statement
entity_behind (Count Plain) = Some entities.Function
entity_behind (Count Short) = Some entities.Type
entity_behind (Count Long) = Some entities.Arguments
entity_behind (Count LongLong) = Some entities.Expression
entity_behind (Count Native) = Some entities.Qualifiers
entity_behind Number = Some entities.Code
entity_behind (Float Plain) = Some entities.Operator
entity_behind (Float Short) = Some entities.Assignment
entity_behind (Float Long) = Some entities.Language
entity_behind (Float LongLong) = Some entities.Parameter
entity_behind _ = None

stands : (e : Entity) → entity_behind (stand_in e) ≡ Some e
stands entities.Location = refl
stands entities.Declaration = refl
stands entities.Statement = refl
stands entities.Function = refl
stands entities.Type = refl
stands entities.Arguments = refl
stands entities.Expression = refl
stands entities.Qualifiers = refl
stands entities.Code = refl
stands entities.Operator = refl
stands entities.Assignment = refl
stands entities.Language = refl
stands entities.Parameter = refl

pub own_kind : (one other : Entity) → stand_in one ≡ stand_in other → one ≡ other
own_kind one other e =
    let found : Some one ≡ Some other = sym (stands one) ∙ ap entity_behind e ∙ stands other in
    cc found

pub is_apart : (one : Entity) → IsPlain (stand_in one) → ⊥
is_apart entities.Location h = h
is_apart entities.Declaration h = h
is_apart entities.Statement h = h
is_apart entities.Function h = h
is_apart entities.Type h = h
is_apart entities.Arguments h = h
is_apart entities.Expression h = h
is_apart entities.Qualifiers h = h
is_apart entities.Code h = h
is_apart entities.Operator h = h
is_apart entities.Assignment h = h
is_apart entities.Language h = h
is_apart entities.Parameter h = h
